-- The next run finds one of the journals that the crash may have left.
use Rattle.std.proofs.Common.{◌≡◌, IfOk, List, length, map, subst}
use Rattle.std.proofs.lemmas.Result.{IfOk-weaker}
use Rattle.std.proofs.Math.Logic.{∥∥₁_map}
use Rattle.sqlite.specs.Recovery.{Image}
use Rattle.jc_upload.specs.declared.answer.Answer.{Answer}
use Rattle.jc_collect.specs.Delivered.{of_delivery}
use Rattle.jc_collector_answers.specs.Collected.{just}
use Rattle.jc_collector_answers.specs.Tied.{PrintsWith}
use Rattle.jc_collector.specs.CollectLeft.{LeavesEach}
use Rattle.jc_theorems.specs.Stopped.{AnyLeft, FindsEach, LeavesPrinted}
use Rattle.jc_collector_answers.specs.PrintedLaws.{with_other}
use Rattle.jc_theorems.proofs.Left.{found_again, found_each}
use Rattle.jc_theorems.proofs.Results.{on_ok_if}
use Rattle.jc_theorems.proofs.stopping.open_after_stop.Goals as goal

pub returns-clause-each : goal.returns-clause-each
returns-clause-each g c = λ clean kind before begin.
    let are = just (map (of_delivery g.R.ByteStream.remaining g.B.ByteSpace.bytes) c.args.deliveries.now) in
    let old = g.O.Write.contents c.args.output.now in
    let new = g.O.Write.contents c.collect_and_stop.new.output in
    let stopped = c.in_ok-stopped.stopped in
    let Finds : List Answer → Type 0
    = λ answers. AnyLeft g.F.StoreInFiles.in_files stopped.files.value (λ left. left ≡ g.G.OpenFromFiles.first → IfOk c.open_or_make.result (FindsEach g.G.Store are before answers)) in
    IfOk-weaker stopped.answered _ (λ status. PrintsWith Finds (length c.args.deliveries.now) status old new)
    (λ status p. with_other (λ answers. AnyLeft g.F.StoreInFiles.in_files stopped.files.value (LeavesEach are kind before answers)) Finds
    (λ answers any left may. ∥∥₁_map (any left may) (λ it same. IfOk-weaker c.open_or_make.result _ _
    (λ opened found late. found_each c.args.tables g.G.OpenFromFiles.first opened found late are kind before answers
    (subst (λ (image : Image). LeavesEach are kind before answers image) same it))
    c.open_or_make.ensures.found))
    (length c.args.deliveries.now) status old new p)
    (c.in_ok-stopped.ensures.each clean kind before begin)

pub returns-clause-found : goal.returns-clause-found
returns-clause-found g c = λ clean kind before begin uploads are left may same.
    let old = g.O.Write.contents c.args.output.now in
    let new = g.O.Write.contents c.collect_and_stop.new.output in
    on_ok_if c.in_ok-stopped.stopped.answered _
    (λ status is. IfOk-weaker c.open_or_make.result _ _
    (λ opened found late. found_again c.args.tables g.G.OpenFromFiles.first opened found late kind uploads before old new
    (subst (λ (image : Image). ∥ LeavesPrinted kind uploads before old new image ∥₁) same (is _ (c.in_ok-stopped.ensures.printed clean kind before begin uploads are left may))))
    c.open_or_make.ensures.found)
