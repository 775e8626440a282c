-- The bytes are as many as a header has.
use Rattle.std.proofs.Common.{◌≡◌, List, ℕ, rules, subst}
use Rattle.std.specs.Prelude.{MatchOption}
use Rattle.jc_sender.specs.Acknowledged.{IsHeadOf}
use Rattle.jc_sender.specs.declared.decided.Sent.{Sent}
use Rattle.jc_sender.proofs.decided.sent_by.Goals as goal

pub returns-in-Ok : goal.returns-in-Ok
returns-in-Ok c =
    let same : c.in-Ok.bytes ≡ c.args.front.now = search rules in
    subst (λ (b : List ℕ). MatchOption c.sent_of.result ((sent : Sent) → ¬ IsHeadOf b sent) (IsHeadOf b)) same c.sent_of.ensures
