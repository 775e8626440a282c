-- The header, and the body behind it.
use Rattle.std.proofs.Common.{◌∙◌, List, Ok, Option, ap, subst, sym, ℕ}
use Rattle.jc_collect.specs.Begun.{BeginsUpload}
use Rattle.jc_collect.specs.Part.{known_from}
use Rattle.jc_collect.proofs.Inspecting.{unread_says}
use Rattle.jc_collect.proofs.inspect.inspect_space.Goals as goal

pub returns-in-Err-clause-says : goal.returns-in-Err-clause-says
returns-in-Err-clause-says g c = λ upload known.
    unread_says c.args.limits.now c.args.bounds.now upload (g.B.ByteSpace.bytes c.args.space) (known_from 48 (g.B.ByteSpace.bytes c.args.space))
    c.in-Err.unread c.inspect_unread.result known c.in-Err.ensures.begins
    c.inspect_unread.ensures

pub returns-clause-says : goal.returns-clause-says
returns-clause-says g c = λ upload known.
    c.inspect_part.ensures.says upload (g.B.ByteSpace.bytes c.args.space) known
    (subst (λ (behind : Option (List ℕ)). BeginsUpload (g.B.ByteSpace.bytes c.args.space) behind (Ok c.in-Ok.head))
    (sym (c.new-part.ensures.bytes ∙ ap (known_from 48) c.in-Ok.ensures.bytes)) c.in-Ok.ensures.begins)
