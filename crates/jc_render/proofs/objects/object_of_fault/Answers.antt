-- The table lacks the code, and the line stands for it.
use Rattle.std.proofs.Common.{inr}
use Rattle.std.proofs.lemmas.Result.{IfOk-weaker}
use Rattle.jc_render.proofs.objects.object_of_fault.Goals as goal

pub returns-in_default : goal.returns-in_default
returns-in_default c =
    let lacks = rw c.from.ensures at (rw c.in_default.is at c.in_ok-row.ensures) in
    IfOk-weaker c.format.result _ _ (λ object same. inr (lacks, same)) c.format.ensures.ok
