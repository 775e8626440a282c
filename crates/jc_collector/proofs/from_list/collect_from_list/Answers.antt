-- The list is standard input, or a file.
use Rattle.std.proofs.Common.{subst, sym}
use Rattle.jc_collector.specs.OverFiles.{StoresFromList, StoresNamed}
use Rattle.jc_collector.specs.Unopened.{FaultsDatabase}
use Rattle.jc_collector.proofs.CollectLeft.{early_err, leaves_others}
use Rattle.jc_collector.proofs.IntoUnion.{names_fault}
use Rattle.jc_collector.proofs.OverFiles.{leads_weaker, listed_named}
use Rattle.jc_collector.proofs.ListNames.{printed_listed}
use Rattle.jc_collector.proofs.Results.{IfErr-each, IfOk-each}
use Rattle.jc_collector.proofs.from_list.collect_from_list.Goals as goal

pub returns-clause-each : goal.returns-clause-each
returns-clause-each g c =
    let old = g.O.Write.contents c.args.output.now in
    let new = g.O.Write.contents c.collect_lines.new.output in
    let given = g.I.Read.remaining c.args.input.now in
    IfOk-each c.collect_lines.result _ _
    (λ closed leads. leads_weaker c.args.tables g.F.OpenFromFiles.first closed.files (StoresNamed g.Y.System.told _ closed.value old new)
    (StoresFromList g.Y.System.told c.args.list.now given closed.value old new)
    (listed_named g.Y.System.told c.args.list.now given _ closed.value old new c.in_ok-source.ensures.listed) leads)
    c.collect_lines.ensures.each

pub returns-clause-printed : goal.returns-clause-printed
returns-clause-printed g c =
    let old = g.O.Write.contents c.args.output.now in
    let new = g.O.Write.contents c.collect_lines.new.output in
    let given = g.I.Read.remaining c.args.input.now in
    IfOk-each c.collect_lines.result _ _
    (λ closed it. printed_listed g.Y.System.told c.args.list.now given _ closed.value old new c.in_ok-source.ensures.listed it)
    c.collect_lines.ensures.printed

pub returns-clause-each_failed : goal.returns-clause-each_failed
returns-clause-each_failed g c =
    IfErr-each c.collect_lines.result _ _
    (λ failed leaves. leaves_others g.F.StoreInFiles.in_files c.args.tables c.args.database.now g.F.OpenFromFiles.first _ _ (λ uploads named. (_, c.in_ok-source.ensures.listed, named))
    (g.O.Write.contents c.args.output.now) (g.O.Write.contents c.collect_lines.new.output) (g.Y.System.deeds c.args.rt.now) (g.Y.System.deeds c.collect_lines.new.rt) failed.failure failed.left leaves)
    c.collect_lines.ensures.each_failed

-- ---- nothing is opened

pub returns-in_err-check_names-clause-each_failed : goal.returns-in_err-check_names-clause-each_failed
returns-in_err-check_names-clause-each_failed g c =
    early_err g.F.StoreInFiles.in_files c.args.tables c.args.database.now g.F.OpenFromFiles.first _ (g.O.Write.contents c.args.output.now) _ c.from_residual.result _
    c.from_residual.ensures.1 (names_fault _ c.in_err-check_names.ensures)

pub returns-in_err-source-clause-each_failed : goal.returns-in_err-source-clause-each_failed
returns-in_err-source-clause-each_failed g c =
    early_err g.F.StoreInFiles.in_files c.args.tables c.args.database.now g.F.OpenFromFiles.first _ (g.O.Write.contents c.args.output.now) _ c.from_residual-in_err-source.result _
    c.from_residual-in_err-source.ensures.1 (subst FaultsDatabase (sym c.in_err-source.ensures.failed) tt)
