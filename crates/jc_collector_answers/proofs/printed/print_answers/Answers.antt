-- One line more is printed, or a front of it.
use Rattle.std.proofs.Common.{◌+◌, length, rules, subst, sym, take}
use Rattle.std.proofs.lemmas.Option.{slice_get-get_or}
use Rattle.jc_command_shared.specs.declared.status.Status.{Status}
use Rattle.jc_collector_answers.specs.Grouped.{these}
use Rattle.jc_collector_answers.specs.Tied.{PrintsWith}
use Rattle.jc_collector_answers.proofs.GroupLines.{failed_front, shown_none, these_front, these_on, these_up_to, these_whole}
use Rattle.jc_collector_answers.proofs.printed.print_answers.Goals as goal

pub loop-answer-init : goal.loop-answer-init
loop-answer-init g c = shown_none (g.O.Write.contents c.args.output.now)

pub loop-answer-preserved : goal.loop-answer-preserved
loop-answer-preserved g c =
    let old = g.O.Write.contents c.args.output.now in
    let now = g.O.Write.contents c.print_line.new.output in
    let i = c.loop-answer.answer-index in
    subst (λ (s : Status). PrintsWith (these (take (i + 1) c.args.answers.now)) (i + 1) s old now) (sym c.worse-status.ensures)
    (these_on c.args.answers.now i c.loop-answer.status old (g.O.Write.contents c.loop-answer.output) now c.loop-answer.invariant _
    (slice_get-get_or _ _ _ c.loop-answer-test.true) c.in_ok-printed.printed c.in_ok-printed.ensures.printed)

pub returns-in_err-printed-clause-printed : goal.returns-in_err-printed-clause-printed
returns-in_err-printed-clause-printed g c =
    failed_front (length c.args.answers.now) (these c.args.answers.now) c.from_residual.result (g.O.Write.contents c.args.output.now) (g.O.Write.contents c.print_line.new.output)
    c.from_residual.ensures.0
    (these_up_to c.args.answers.now c.loop-answer.answer-index c.loop-answer.status (g.O.Write.contents c.args.output.now) (g.O.Write.contents c.loop-answer.output)
    (g.O.Write.contents c.print_line.new.output) c.loop-answer.invariant _ (slice_get-get_or _ _ _ c.loop-answer-test.true) c.requires.few c.in_err-printed.ensures.printed)

pub returns-then-is_err-clause-printed : goal.returns-then-is_err-clause-printed
returns-then-is_err-clause-printed g c =
    these_front c.args.answers.now c.loop-answer.answer-index c.loop-answer.status (g.O.Write.contents c.args.output.now) (g.O.Write.contents c.loop-answer.output)
    (g.O.Write.contents c.flush.new.self) c.loop-answer.invariant (search rules) (search rules)

pub returns-clause-printed : goal.returns-clause-printed
returns-clause-printed g c =
    these_whole c.args.answers.now c.loop-answer.answer-index c.loop-answer.status (g.O.Write.contents c.args.output.now) (g.O.Write.contents c.loop-answer.output)
    (g.O.Write.contents c.flush.new.self) c.loop-answer.invariant (search rules) (search rules)
