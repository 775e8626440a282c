-- A buffer that is empty gives what its reader gives.
use Rattle.std.proofs.Common.{◌∙◌, ℕ, List, Option, inl, subst}
use Rattle.jc_collector_answers.specs.Collected.{told_within}
use Rattle.jc_collector.specs.UnionRun.{RunsNotedOrNot}
use Rattle.jc_collector.proofs.IntoUnion.{fails_first}
use Rattle.jc_collector.proofs.OverFiles.{prepend_nothing}
use Rattle.jc_collector.proofs.into_union.join_lines.Goals as goal

pub returns-clause-runs : goal.returns-clause-runs
returns-clause-runs g c =
    let given = g.N.Read.remaining c.args.list in
    subst (λ (text : Option (List ℕ)). RunsNotedOrNot g.F.StoreInFiles.in_files g.L.Ledger c.args.target.tables g.F.OpenFromFiles.first (told_within c.args.most_windows g.Y.System.told) g.P.Past.journal c.args.ledger c.args.target.database.now text
    c.join_names.result (g.O.Write.contents c.args.output.now) (g.O.Write.contents c.join_names.new.output) (g.E.Write.contents c.args.errors.now) (g.E.Write.contents c.join_names.new.errors) (g.Y.System.deeds c.args.rt.now) (g.Y.System.deeds c.join_names.new.rt))
    (prepend_nothing given)
    (rw (c.in-Ok.ensures.capacity, c.in-Ok.ensures.empty, c.in-Ok.ensures.inner) at c.join_names.ensures.runs)

pub returns-in_default-clause-runs : goal.returns-in_default-clause-runs
returns-in_default-clause-runs g c =
    inl (fails_first g.F.StoreInFiles.in_files c.args.target.tables c.args.target.database.now g.F.OpenFromFiles.first c.args.ledger c.unopened.result _ _ (g.O.Write.contents c.args.output.now) _
    (c.unopened.ensures.failure ∙ c.early-early.ensures.failure) tt c.early-early.ensures.left c.unopened.ensures.left)
