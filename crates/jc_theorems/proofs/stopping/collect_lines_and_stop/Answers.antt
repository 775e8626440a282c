-- Whatever a crash leaves is a journal, which keeps what was printed.
use Rattle.std.proofs.Common.{IfErr, IfOk}
use Rattle.std.proofs.lemmas.Result.{IfErr-weaker, IfOk-weaker}
use Rattle.jc_collector_answers.specs.Collected.{those_named}
use Rattle.jc_collector_answers.specs.declared.name_lines.NameLines.TheVariants.{Uploads}
use Rattle.jc_collector_answers.specs.Tied.{NamedWith, PrintsFront}
use Rattle.jc_collector.specs.Open.{HoldsIn}
use Rattle.jc_collector.specs.Kinds.{kind_of}
use Rattle.jc_collector.specs.CollectLeft.{LeavesEach}
use Rattle.jc_theorems.specs.Stopped.{AnyLeft}
use Rattle.jc_collector.specs.KindLaws.{at_kind}
use Rattle.jc_collector.specs.PrintedLaws.{front, whole}
use Rattle.jc_collector_answers.specs.PrintedLaws.{front_other, named, named_other}
use Rattle.jc_theorems.proofs.Left.{left_each}
use Rattle.jc_theorems.proofs.stopping.collect_lines_and_stop.Goals as goal

pub returns-clause-each : goal.returns-clause-each
returns-clause-each g c = λ clean.
    let are = those_named g.Y.System.told Uploads (g.L.Read.remaining c.args.names.now) in
    let old = g.O.Write.contents c.args.output.now in
    let new = g.O.Write.contents c.answer_lines.new.output in
    let run = c.in_ok-done.ensures in
    let it = c.in_ok-done.field-0 in
    let files = c.stop_opened-files.result.value in
    at_kind g.F.Store c.args.tables g.F.OpenFromFiles.first it.keeper run.kind
    (λ kind before. IfOk it.done (λ status. NamedWith (λ answers. AnyLeft g.F.StoreInFiles.in_files files (LeavesEach are kind before answers)) (g.L.Read.remaining c.args.names.now) status old new))
    (c.stop_opened-files.ensures.clean clean)
    (λ before begin.
    IfOk-weaker it.done _ (λ status. NamedWith (λ answers. AnyLeft g.F.StoreInFiles.in_files files (LeavesEach are (kind_of it.keeper) before answers)) (g.L.Read.remaining c.args.names.now) status old new)
    (λ status p. named_other (HoldsIn g.F.Store it.keeper are before) (λ answers. AnyLeft g.F.StoreInFiles.in_files files (LeavesEach are (kind_of it.keeper) before answers))
    (left_each g.F.StoreInFiles.in_files c.args.tables g.F.OpenFromFiles.first it.keeper files c.stop_opened-files.ensures.clean
    c.stop_opened-files.ensures.left run.answers.recovers are clean before begin)
    (g.L.Read.remaining c.args.names.now) status old new p)
    (whole (named (g.L.Read.remaining c.args.names.now)) (HoldsIn g.F.Store it.keeper are before) old new it.done (run.answers.each (c.stop_opened-files.ensures.clean clean) before begin)))

pub returns-clause-each_failed : goal.returns-clause-each_failed
returns-clause-each_failed g c = λ clean.
    let are = those_named g.Y.System.told Uploads (g.L.Read.remaining c.args.names.now) in
    let old = g.O.Write.contents c.args.output.now in
    let new = g.O.Write.contents c.answer_lines.new.output in
    let run = c.in_ok-done.ensures in
    let it = c.in_ok-done.field-0 in
    let files = c.stop_opened-files.result.value in
    at_kind g.F.Store c.args.tables g.F.OpenFromFiles.first it.keeper run.kind
    (λ kind before. IfErr it.done (λ _. PrintsFront (λ answers. AnyLeft g.F.StoreInFiles.in_files files (LeavesEach are kind before answers)) old new))
    (c.stop_opened-files.ensures.clean clean)
    (λ before begin.
    IfErr-weaker it.done _ (λ _. PrintsFront (λ answers. AnyLeft g.F.StoreInFiles.in_files files (LeavesEach are (kind_of it.keeper) before answers)) old new)
    (λ failure p. front_other (HoldsIn g.F.Store it.keeper are before) (λ answers. AnyLeft g.F.StoreInFiles.in_files files (LeavesEach are (kind_of it.keeper) before answers))
    (left_each g.F.StoreInFiles.in_files c.args.tables g.F.OpenFromFiles.first it.keeper files c.stop_opened-files.ensures.clean
    c.stop_opened-files.ensures.left run.answers.recovers are clean before begin)
    old new p)
    (front (named (g.L.Read.remaining c.args.names.now)) (HoldsIn g.F.Store it.keeper are before) old new it.done (run.answers.each (c.stop_opened-files.ensures.clean clean) before begin)))
