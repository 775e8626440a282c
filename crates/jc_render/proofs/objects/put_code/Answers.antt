-- Of a code that the table lacks nothing is written.
use Rattle.std.proofs.Common.{[], inr, refl}
use Rattle.std.proofs.KnownBytes.{Appends-nil}
use Rattle.jc_render.proofs.objects.put_code.Goals as goal

pub returns-in-None : goal.returns-in-None
returns-in-None g c =
    let lacks = rw c.in-None.is at c.in_ok-object.ensures in
    ([], inr (lacks, refl), Appends-nil _)
