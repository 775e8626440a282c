-- The next run finds one of the journals that the crash may have left.
use Rattle.std.proofs.Common.{◌≡◌, IfOk, List, subst}
use Rattle.std.proofs.lemmas.Result.{IfOk-weaker}
use Rattle.std.proofs.Math.Logic.{∥∥₁_map}
use Rattle.sqlite.specs.Recovery.{Image}
use Rattle.jc_upload.specs.declared.answer.Answer.{Answer}
use Rattle.jc_collector_answers.specs.Collected.{those_named}
use Rattle.jc_collector_answers.specs.declared.name_lines.NameLines.TheVariants.{Uploads}
use Rattle.jc_collector_answers.specs.Tied.{NamedWith}
use Rattle.jc_collector.specs.CollectLeft.{LeavesEach}
use Rattle.jc_theorems.specs.Stopped.{AnyLeft, FindsEach}
use Rattle.jc_collector_answers.specs.PrintedLaws.{named_other}
use Rattle.jc_theorems.proofs.Left.{found_each}
use Rattle.jc_theorems.proofs.stopping.open_after_lines.Goals as goal

pub returns : goal.returns
returns g c = λ clean kind before begin.
    let are = those_named g.Y.System.told Uploads (g.L.Read.remaining c.args.names.now) in
    let old = g.O.Write.contents c.args.output.now in
    let new = g.O.Write.contents c.collect_lines_and_stop.new.output in
    let stopped = c.in_ok-stopped.stopped in
    let Finds : List Answer → Type 0
    = λ answers. AnyLeft g.F.StoreInFiles.in_files stopped.files.value (λ left. left ≡ g.G.OpenFromFiles.first → IfOk c.open_or_make.result (FindsEach g.G.Store are before answers)) in
    IfOk-weaker stopped.answered _ (λ status. NamedWith Finds (g.L.Read.remaining c.args.names.now) status old new)
    (λ status p. named_other (λ answers. AnyLeft g.F.StoreInFiles.in_files stopped.files.value (LeavesEach are kind before answers)) Finds
    (λ answers any left may. ∥∥₁_map (any left may) (λ it same. IfOk-weaker c.open_or_make.result _ _
    (λ opened found late. found_each c.args.tables g.G.OpenFromFiles.first opened found late are kind before answers
    (subst (λ (image : Image). LeavesEach are kind before answers image) same it))
    c.open_or_make.ensures.found))
    (g.L.Read.remaining c.args.names.now) status old new p)
    (c.in_ok-stopped.ensures.each clean kind before begin)
