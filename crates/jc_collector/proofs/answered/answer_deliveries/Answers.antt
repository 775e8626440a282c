-- There is an answer for each delivery.
use Rattle.std.proofs.Common.{length, refl}
use Rattle.jc_collector.specs.Database.{IsOutFailure}
use Rattle.jc_collector.proofs.AnsweredOver.{answers_as}
use Rattle.jc_collector.proofs.Causes.{not_read}
use Rattle.jc_collector.proofs.Counted.{counted_printed, counted_with}
use Rattle.jc_collector.proofs.Results.{IfErr-each, IfOk-each}
use Rattle.jc_collector.proofs.answered.answer_deliveries.Goals as goal

pub returns-clause-answers : goal.returns-clause-answers
returns-clause-answers g c =
    let old = g.O.Write.contents c.args.output.now in
    let new = g.O.Write.contents c.answer_uploads.new.output in
    IfOk-each c.answer_uploads.result _ _
    (λ run it. answers_as _ _ run.done old new _ _ _ (λ Holds status p. counted_with (length c.args.deliveries.now) Holds status old new p) it)
    c.answer_uploads.ensures.answers

pub returns-clause-printed : goal.returns-clause-printed
returns-clause-printed g c =
    let old = g.O.Write.contents c.args.output.now in
    let new = g.O.Write.contents c.answer_uploads.new.output in
    let count = length c.args.deliveries.now in
    IfOk-each c.answer_uploads.result _ _
    (λ run it. IfOk-each run.done _ _ (λ status p. counted_printed count count refl status old new p) it)
    c.answer_uploads.ensures.printed

pub returns-clause-stopped : goal.returns-clause-stopped
returns-clause-stopped g c =
    IfOk-each c.answer_uploads.result _ _ (λ run it. IfErr-each run.done _ IsOutFailure not_read it) c.answer_uploads.ensures.stopped
