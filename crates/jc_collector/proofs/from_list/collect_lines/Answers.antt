-- A buffer that is empty gives what its reader gives, and there is an answer for each line of it.
use Rattle.std.proofs.Common.{◌≡◌, ℕ, List, Option, subst}
use Rattle.std.specs.Prelude.{IfErr}
use Rattle.std.specs.Io.Buffered.{reader_remaining}
use Rattle.jc_collector_answers.specs.Collected.{those_named}
use Rattle.jc_collector_answers.specs.Named.{PrintsNamed}
use Rattle.jc_collector_answers.specs.declared.name_lines.NameLines.TheVariants.{Uploads}
use Rattle.jc_collector.specs.CollectLeft.{CollectLeaves}
use Rattle.jc_collector.specs.OverFiles.{StoresNamed}
use Rattle.jc_collector.proofs.CollectLeft.{collect_early}
use Rattle.jc_collector.proofs.Counted.{counted_named}
use Rattle.jc_collector.proofs.OverFiles.{leads_weaker, other_text, prepend_nothing}
use Rattle.jc_collector.proofs.Results.{IfErr-each, IfOk-each}
use Rattle.jc_collector.proofs.WhyUncollected.{by_lines}
use Rattle.jc_collector.proofs.from_list.collect_lines.Goals as goal

pub returns-clause-each : goal.returns-clause-each
returns-clause-each g c =
    let old = g.O.Write.contents c.args.output.now in
    let new = g.O.Write.contents c.collect_uploads.new.output in
    let given = g.L.Read.remaining c.args.list in
    let same : reader_remaining g.L.Read.remaining c.in-Ok.names ≡ g.L.Read.remaining c.args.list =
    rw (c.in-Ok.ensures.capacity, c.in-Ok.ensures.empty, c.in-Ok.ensures.inner) (prepend_nothing (g.L.Read.remaining c.args.list)) in
    IfOk-each c.collect_uploads.result _ _
    (λ closed leads. leads_weaker c.args.target.tables g.F.OpenFromFiles.first closed.files _ (StoresNamed g.Y.System.told given closed.value old new)
    (λ before after it. other_text g.Y.System.told (reader_remaining g.L.Read.remaining c.in-Ok.names) given same closed.value old new before after
    (counted_named (reader_remaining g.L.Read.remaining c.in-Ok.names) _ closed.value old new it)) leads)
    c.collect_uploads.ensures.each

pub returns-clause-printed : goal.returns-clause-printed
returns-clause-printed g c =
    let old = g.O.Write.contents c.args.output.now in
    let new = g.O.Write.contents c.collect_uploads.new.output in
    let same : reader_remaining g.L.Read.remaining c.in-Ok.names ≡ g.L.Read.remaining c.args.list =
    rw (c.in-Ok.ensures.capacity, c.in-Ok.ensures.empty, c.in-Ok.ensures.inner) (prepend_nothing (g.L.Read.remaining c.args.list)) in
    IfOk-each c.collect_uploads.result _ _
    (λ closed it. subst (λ (t : Option (List ℕ)). PrintsNamed t closed.value old new) same
    (counted_named (reader_remaining g.L.Read.remaining c.in-Ok.names) _ closed.value old new it).shown)
    c.collect_uploads.ensures.printed

pub returns-clause-failed : goal.returns-clause-failed
returns-clause-failed g c =
    IfErr-each c.collect_uploads.result _ _ (λ failed why. by_lines c.args.target.database.now failed.failure why) c.collect_uploads.ensures.failed

pub returns-clause-each_failed : goal.returns-clause-each_failed
returns-clause-each_failed g c =
    let same : reader_remaining g.L.Read.remaining c.in-Ok.names ≡ g.L.Read.remaining c.args.list =
    rw (c.in-Ok.ensures.capacity, c.in-Ok.ensures.empty, c.in-Ok.ensures.inner) (prepend_nothing (g.L.Read.remaining c.args.list)) in
    subst (λ (t : Option (List ℕ)). IfErr c.collect_uploads.result (λ failed. CollectLeaves g.F.StoreInFiles.in_files c.args.target.tables c.args.target.database.now g.F.OpenFromFiles.first
    (those_named g.Y.System.told Uploads t) (g.O.Write.contents c.args.output.now) (g.O.Write.contents c.collect_uploads.new.output) (g.Y.System.deeds c.args.rt.now) (g.Y.System.deeds c.collect_uploads.new.rt) failed.failure failed.left))
    same c.collect_uploads.ensures.each_failed

pub returns-in_default-clause-each_failed : goal.returns-in_default-clause-each_failed
returns-in_default-clause-each_failed g c =
    collect_early g.F.StoreInFiles.in_files c.args.target.tables c.args.target.database.now g.F.OpenFromFiles.first _ (g.O.Write.contents c.args.output.now) _ c.from.result _ c.from.ensures tt
