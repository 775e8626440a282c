-- Whatever a crash leaves is a journal, which keeps what was printed.
use Rattle.std.proofs.Common.{◌≡◌, Err, IfErr, IfOk, OnOk, length, map}
use Rattle.std.proofs.lemmas.Result.{IfErr-weaker, IfOk-weaker}
use Rattle.std.proofs.Math.Logic.{∥∥₁_map}
use Rattle.sqlite.specs.Recovery.{Image}
use Rattle.jc_command_shared.specs.declared.failure.Failure.TheVariants.{WriteFailed}
use Rattle.jc_collect.specs.Delivered.{of_delivery}
use Rattle.jc_collector_answers.specs.Collected.{just}
use Rattle.jc_collector_answers.specs.Tied.{PrintsWith, PrintsFront}
use Rattle.jc_collector.specs.Open.{HoldsIn}
use Rattle.jc_collector.specs.Kinds.{kind_of}
use Rattle.jc_collector.specs.CollectLeft.{LeavesEach}
use Rattle.jc_theorems.specs.Stopped.{AnyLeft, LeavesFirst, LeavesPrinted}
use Rattle.jc_collector.specs.KindLaws.{at_kind}
use Rattle.jc_collector.specs.PrintedLaws.{front, whole}
use Rattle.jc_collector_answers.specs.PrintedLaws.{front_other, many, with_other}
use Rattle.jc_theorems.proofs.Left.{left_each}
use Rattle.jc_theorems.proofs.Results.{on_ok_if}
use Rattle.jc_theorems.proofs.stopping.collect_and_stop.Goals as goal

pub returns-clause-each : goal.returns-clause-each
returns-clause-each g c = λ clean.
    let are = just (map (of_delivery g.R.ByteStream.remaining g.B.ByteSpace.bytes) c.args.deliveries.now) in
    let old = g.O.Write.contents c.args.output.now in
    let new = g.O.Write.contents c.answer_deliveries.new.output in
    let run = c.in_ok-done.ensures in
    let it = c.in_ok-done.field-0 in
    let files = c.stop_opened-files.result.value in
    at_kind g.F.Store c.args.tables g.F.OpenFromFiles.first it.keeper run.kind
    (λ kind before. IfOk it.done (λ status. PrintsWith (λ answers. AnyLeft g.F.StoreInFiles.in_files files (LeavesEach are kind before answers)) (length c.args.deliveries.now) status old new))
    (c.stop_opened-files.ensures.clean clean)
    (λ before begin.
    IfOk-weaker it.done _ (λ status. PrintsWith (λ answers. AnyLeft g.F.StoreInFiles.in_files files (LeavesEach are (kind_of it.keeper) before answers)) (length c.args.deliveries.now) status old new)
    (λ status p. with_other (HoldsIn g.F.Store it.keeper are before) (λ answers. AnyLeft g.F.StoreInFiles.in_files files (LeavesEach are (kind_of it.keeper) before answers))
    (left_each g.F.StoreInFiles.in_files c.args.tables g.F.OpenFromFiles.first it.keeper files c.stop_opened-files.ensures.clean
    c.stop_opened-files.ensures.left run.answers.recovers are clean before begin)
    (length c.args.deliveries.now) status old new p)
    (whole (many (length c.args.deliveries.now)) (HoldsIn g.F.Store it.keeper are before) old new it.done (run.answers.each (c.stop_opened-files.ensures.clean clean) before begin)))

pub returns-clause-each_failed : goal.returns-clause-each_failed
returns-clause-each_failed g c = λ clean.
    let are = just (map (of_delivery g.R.ByteStream.remaining g.B.ByteSpace.bytes) c.args.deliveries.now) in
    let old = g.O.Write.contents c.args.output.now in
    let new = g.O.Write.contents c.answer_deliveries.new.output in
    let run = c.in_ok-done.ensures in
    let it = c.in_ok-done.field-0 in
    let files = c.stop_opened-files.result.value in
    at_kind g.F.Store c.args.tables g.F.OpenFromFiles.first it.keeper run.kind
    (λ kind before. IfErr it.done (λ _. PrintsFront (λ answers. AnyLeft g.F.StoreInFiles.in_files files (LeavesEach are kind before answers)) old new))
    (c.stop_opened-files.ensures.clean clean)
    (λ before begin.
    IfErr-weaker it.done _ (λ _. PrintsFront (λ answers. AnyLeft g.F.StoreInFiles.in_files files (LeavesEach are (kind_of it.keeper) before answers)) old new)
    (λ failure p. front_other (HoldsIn g.F.Store it.keeper are before) (λ answers. AnyLeft g.F.StoreInFiles.in_files files (LeavesEach are (kind_of it.keeper) before answers))
    (left_each g.F.StoreInFiles.in_files c.args.tables g.F.OpenFromFiles.first it.keeper files c.stop_opened-files.ensures.clean
    c.stop_opened-files.ensures.left run.answers.recovers are clean before begin)
    old new p)
    (front (many (length c.args.deliveries.now)) (HoldsIn g.F.Store it.keeper are before) old new it.done (run.answers.each (c.stop_opened-files.ensures.clean clean) before begin)))

pub returns-clause-printed : goal.returns-clause-printed
returns-clause-printed g c = λ clean kind before begin uploads are.
    let old = g.O.Write.contents c.args.output.now in
    let new = g.O.Write.contents c.answer_deliveries.new.output in
    let run = c.in_ok-done.ensures in
    let it = c.in_ok-done.field-0 in
    let early = c.stop_opened-files.ensures.clean clean in
    at_kind g.F.Store c.args.tables g.F.OpenFromFiles.first it.keeper run.kind
    (λ kind before. (left : Image) → g.F.StoreInFiles.in_files.may_leave c.stop_opened-files.result.value left → OnOk it.done (∥ LeavesPrinted kind uploads before old new left ∥₁))
    early
    (λ before begin left may. on_ok_if it.done _
    (λ status is. ∥∥₁_map
    (c.stop_opened-files.ensures.left (run.answers.recovers early before begin).journals clean left may)
    (λ found. record {
      found = found.0;
      keeps = is _ ((run.collected uploads are).crash early before begin found.0 found.1);
      holds = found.2;
    })))
    kind before begin

pub returns-clause-unprinted : goal.returns-clause-unprinted
returns-clause-unprinted g c = λ clean kind before begin uploads are.
    let old = g.O.Write.contents c.args.output.now in
    let new = g.O.Write.contents c.answer_deliveries.new.output in
    let run = c.in_ok-done.ensures in
    let it = c.in_ok-done.field-0 in
    let early = c.stop_opened-files.ensures.clean clean in
    at_kind g.F.Store c.args.tables g.F.OpenFromFiles.first it.keeper run.kind
    (λ kind before. (left : Image) → g.F.StoreInFiles.in_files.may_leave c.stop_opened-files.result.value left → it.done ≡ Err WriteFailed
    → ∥ LeavesFirst kind uploads before old new left ∥₁)
    early
    (λ before begin left may failed. ∥∥₁_map
    (c.stop_opened-files.ensures.left (run.answers.recovers early before begin).journals clean left may)
    (λ found. record {
      found = found.0;
      keeps = (run.collected uploads are).crash_unprinted early before begin found.0 found.1 failed;
      holds = found.2;
    }))
    kind before begin
