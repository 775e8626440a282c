-- Lines in turn, until none is left.
use Rattle.std.proofs.Common.{◌≡◌, ◌∷◌, length, rules, subst, sym}
use Rattle.jc_command_shared.specs.Lines.{lines_of}
use Rattle.jc_sender.specs.declared.decided.Outcome.{Outcome}
use Rattle.jc_sender.proofs.Acknowledging.{SaysSoFar, all_read, none_read, one_read}
use Rattle.jc_sender.proofs.decided.outcome_in.Goals as goal

pub loop-rest-init : goal.loop-rest-init
loop-rest-init c = none_read c.args.sent c.args.text.now

pub loop-rest-preserved : goal.loop-rest-preserved
loop-rest-preserved c =
    let first : lines_of c.loop-rest.rest.now ≡ c.split_at.result.0.now ∷ lines_of c.split_at.result.1.now = search rules in
    subst (λ (o : Outcome). SaysSoFar c.args.sent c.args.text.now c.split_at.result.1.now o) (sym c.after-outcome.ensures)
    (one_read c.args.sent c.args.text.now c.loop-rest.rest.now c.split_at.result.0.now c.split_at.result.1.now c.loop-rest.outcome
    c.outcome_of.result c.loop-rest.invariant first c.outcome_of.ensures)

pub returns : goal.returns
returns c =
    let none : length c.loop-rest.rest.now ≡ 0 = search rules in
    all_read c.args.sent c.args.text.now c.loop-rest.rest.now c.loop-rest.outcome none c.loop-rest.invariant
