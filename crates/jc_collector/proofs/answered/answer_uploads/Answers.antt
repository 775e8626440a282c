-- The keeper is that of one kind, and keeps the journal that the files had in tables of this kind.
use Rattle.jc_command_args.specs.declared.request.Tables.TheVariants.{ByKey, ByNumber}
use Rattle.jc_collector.proofs.AnsweredOver.{answers_begun, collects_begun}
use Rattle.jc_collector.proofs.Exported.{opens_exports}
use Rattle.jc_collector.proofs.Found.{begun_found}
use Rattle.jc_collector.proofs.IntoUnion.{database_fault}
use Rattle.jc_collector.proofs.Open.{on_ok_each}
use Rattle.jc_collector.proofs.answered.answer_uploads.Goals as goal

pub returns-in-ByKey-clause-kind : goal.returns-in-ByKey-clause-kind
returns-in-ByKey-clause-kind g c =
    let found = rw c.in-ByKey.is at c.in-Ok.ensures.found in
    λ clean kind before begin. ((found (c.answer_over-done.ensures.clean clean)).1 kind before begin).0

pub returns-in-ByKey-clause-answers : goal.returns-in-ByKey-clause-answers
returns-in-ByKey-clause-answers g c =
    let found = rw c.in-ByKey.is at c.in-Ok.ensures.found in
    answers_begun _ _ _ _ _ _ _ (begun_found c.args.target.tables ByKey g.F.OpenFromFiles.first c.in-ByKey.keeper.conn found) _
    c.answer_over-done.ensures.answers

pub returns-in-ByKey-clause-collected : goal.returns-in-ByKey-clause-collected
returns-in-ByKey-clause-collected g c =
    let found = rw c.in-ByKey.is at c.in-Ok.ensures.found in
    λ known have. collects_begun _ _ _ _ _ _ _ (begun_found c.args.target.tables ByKey g.F.OpenFromFiles.first c.in-ByKey.keeper.conn found) known
    (c.answer_over-done.ensures.collected known have)

pub returns-in-ByNumber-clause-kind : goal.returns-in-ByNumber-clause-kind
returns-in-ByNumber-clause-kind g c =
    let found = rw c.in-ByNumber.is at c.in-Ok.ensures.found in
    λ clean kind before begin. ((found (c.answer_over-done-in-ByNumber.ensures.clean clean)).1 kind before begin).0

pub returns-in-ByNumber-clause-answers : goal.returns-in-ByNumber-clause-answers
returns-in-ByNumber-clause-answers g c =
    let found = rw c.in-ByNumber.is at c.in-Ok.ensures.found in
    answers_begun _ _ _ _ _ _ _ (begun_found c.args.target.tables ByNumber g.F.OpenFromFiles.first c.in-ByNumber.keeper.conn found) _
    c.answer_over-done-in-ByNumber.ensures.answers

pub returns-in-ByNumber-clause-collected : goal.returns-in-ByNumber-clause-collected
returns-in-ByNumber-clause-collected g c =
    let found = rw c.in-ByNumber.is at c.in-Ok.ensures.found in
    λ known have. collects_begun _ _ _ _ _ _ _ (begun_found c.args.target.tables ByNumber g.F.OpenFromFiles.first c.in-ByNumber.keeper.conn found) known
    (c.answer_over-done-in-ByNumber.ensures.collected known have)

pub returns-in-ByKey-clause-exported : goal.returns-in-ByKey-clause-exported
returns-in-ByKey-clause-exported g c =
    let found = rw c.in-ByKey.is at c.in-Ok.ensures.found in
    on_ok_each c.answer_over-done.result _ _
    (λ stands sound before begin.
    let it = stands sound before (begun_found c.args.target.tables ByKey g.F.OpenFromFiles.first c.in-ByKey.keeper.conn found before begin) in
    (it.0, opens_exports _ _ _ _ _ _ c.in-Ok.ensures.touched it.1))
    c.answer_over-done.ensures.exported

pub returns-in-ByNumber-clause-exported : goal.returns-in-ByNumber-clause-exported
returns-in-ByNumber-clause-exported g c =
    let found = rw c.in-ByNumber.is at c.in-Ok.ensures.found in
    on_ok_each c.answer_over-done-in-ByNumber.result _ _
    (λ stands sound before begin.
    let it = stands sound before (begun_found c.args.target.tables ByNumber g.F.OpenFromFiles.first c.in-ByNumber.keeper.conn found before begin) in
    (it.0, opens_exports _ _ _ _ _ _ c.in-Ok.ensures.touched it.1))
    c.answer_over-done-in-ByNumber.ensures.exported

pub returns-in-Err-clause-unopened : goal.returns-in-Err-clause-unopened
returns-in-Err-clause-unopened g c = record {
  begins = c.in-Err.ensures.crash;
  handed = c.in-Err.ensures.handed;
  fault = database_fault c.args.target.database.now _ c.in-Err.ensures.failed;
}
