-- The list is standard input, or a file.
use Rattle.std.proofs.Common.{[], ◌∷◌, ◌∙◌, inl, inr, ⊎_elim}
use Rattle.jc_collector.specs.ExportedLaws.{does_nothing}
use Rattle.jc_collector.proofs.IntoUnion.{by_union, fails_first, names_fault}
use Rattle.jc_collector.proofs.Results.{IfErr-each}
use Rattle.jc_collector.proofs.into_union.collect_into_union.Goals as goal

pub returns-clause-runs : goal.returns-clause-runs
returns-clause-runs g c = ⊎_elim (λ early. inl early) (λ runs. inr (_, c.in-Ok.ensures.listed, runs)) c.join_lines.ensures.runs

pub returns-clause-failed : goal.returns-clause-failed
returns-clause-failed g c =
    IfErr-each c.join_lines.result _ _ (λ run. by_union c.args.database.now (c.args.list.now ∷ []) _ run.failure) c.join_lines.ensures.failed

pub returns-clause-touched : goal.returns-clause-touched
returns-clause-touched g c = c.join_lines.ensures.touched

-- ---- nothing is opened

pub returns-in-Err-clause-touched : goal.returns-in-Err-clause-touched
returns-in-Err-clause-touched g c = does_nothing _

pub returns-in-Err-clause-runs : goal.returns-in-Err-clause-runs
returns-in-Err-clause-runs g c =
    inl (fails_first g.F.StoreInFiles.in_files c.args.tables c.args.database.now g.F.OpenFromFiles.first c.args.ledger c.unopened.result _ _ (g.O.Write.contents c.args.output.now) _
    (c.unopened.ensures.failure ∙ c.early.ensures.failure) (names_fault c.in-Err.failure c.in-Err.ensures) c.early.ensures.left c.unopened.ensures.left)

pub returns-in-Err-list_source-clause-touched : goal.returns-in-Err-list_source-clause-touched
returns-in-Err-list_source-clause-touched g c = does_nothing _

pub returns-in-Err-list_source-clause-runs : goal.returns-in-Err-list_source-clause-runs
returns-in-Err-list_source-clause-runs g c =
    inl (fails_first g.F.StoreInFiles.in_files c.args.tables c.args.database.now g.F.OpenFromFiles.first c.args.ledger c.unopened-in-Err-list_source.result _ _ (g.O.Write.contents c.args.output.now) _
    (c.unopened-in-Err-list_source.ensures.failure ∙ (c.early-in-Err-list_source.ensures.failure ∙ c.in-Err-list_source.ensures.failed)) tt
    c.early-in-Err-list_source.ensures.left c.unopened-in-Err-list_source.ensures.left)

pub returns-clause-exported : goal.returns-clause-exported
returns-clause-exported g c = c.join_lines.ensures.exported
