-- What is left are the lines of the answers that are left.
use Rattle.std.proofs.Common.{◌≡◌, ◌∷◌, length, rules}
use Rattle.jc_collector_answers.proofs.Judging.{left_first, left_more, left_none}
use Rattle.jc_command_shared.specs.Lines.{lines_of}
use Rattle.jc_collector_answers.proofs.judged.status_of_lines.Goals as goal

pub loop-rest-init : goal.loop-rest-init
loop-rest-init c = λ answers are. left_first c.args.lines.now answers are

pub loop-rest-preserved : goal.loop-rest-preserved
loop-rest-preserved c =
    λ answers are.
    let first : lines_of c.loop-rest.rest.now ≡ c.split_at.result.0.now ∷ lines_of c.split_at.result.1.now = search rules in
    left_more c.loop-rest.rest.now c.split_at.result.0.now c.split_at.result.1.now c.loop-rest.status c.status_behind-status.result
    answers first c.status_behind-status.ensures (c.loop-rest.invariant answers are)

pub returns : goal.returns
returns c =
    λ answers are.
    let none : length c.loop-rest.rest.now ≡ 0 = search rules in
    left_none c.loop-rest.rest.now c.loop-rest.status answers none (c.loop-rest.invariant answers are)
