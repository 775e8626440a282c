-- There is an answer for each line.
use Rattle.jc_collector.specs.Database.{MayEndNames}
use Rattle.jc_collector.proofs.AnsweredOver.{answers_as}
use Rattle.jc_collector.proofs.Causes.{may_end_names}
use Rattle.jc_collector.proofs.Counted.{counted_named}
use Rattle.jc_collector.proofs.Results.{IfErr-each, IfOk-each}
use Rattle.jc_collector.proofs.answered.answer_lines.Goals as goal

pub returns-clause-answers : goal.returns-clause-answers
returns-clause-answers g c =
    let old = g.O.Write.contents c.args.output.now in
    let new = g.O.Write.contents c.answer_uploads.new.output in
    IfOk-each c.answer_uploads.result _ _
    (λ run it. answers_as _ _ run.done old new _ _ _ (λ Holds status p. counted_named (g.L.Read.remaining c.args.names.now) Holds status old new p) it)
    c.answer_uploads.ensures.answers

pub returns-clause-printed : goal.returns-clause-printed
returns-clause-printed g c =
    let old = g.O.Write.contents c.args.output.now in
    let new = g.O.Write.contents c.answer_uploads.new.output in
    IfOk-each c.answer_uploads.result _ _
    (λ run it. IfOk-each run.done _ _ (λ status p. (counted_named (g.L.Read.remaining c.args.names.now) _ status old new p).shown) it)
    c.answer_uploads.ensures.printed

pub returns-clause-stopped : goal.returns-clause-stopped
returns-clause-stopped g c =
    IfOk-each c.answer_uploads.result _ _ (λ run it. IfErr-each run.done _ MayEndNames may_end_names it) c.answer_uploads.ensures.stopped
