-- The header, and what is behind it.
use Rattle.std.proofs.Common.{ap, List, Ok, Option, subst, sym, ℕ}
use Rattle.jc_collect.specs.Begun.{BeginsUpload}
use Rattle.jc_collect.specs.Part.{known_from}
use Rattle.jc_collect.specs.Wide.{windows_alone}
use Rattle.jc_collect.proofs.wide.refuse_wide.Goals as goal

pub returns-in-Ok-clause-says : goal.returns-in-Ok-clause-says
returns-in-Ok-clause-says g c = λ upload known.
    let bytes = g.B.ByteSpace.bytes in
    c.refuse_behind.ensures.says upload (bytes c.args.space.now) known
    (subst (λ (behind : Option (List ℕ)). BeginsUpload (bytes c.args.space.now) behind (Ok c.in-Ok.head))
    (sym (ap (known_from 48) c.in-Ok.ensures.bytes)) c.in-Ok.ensures.begins)

pub returns-in-Err-clause-says : goal.returns-in-Err-clause-says
returns-in-Err-clause-says g c = λ upload known.
    let bytes = g.B.ByteSpace.bytes in
    c.refuse_unread.ensures.says c.args.limits.now (windows_alone c.args.most_windows) upload (bytes c.args.space.now)
    (known_from 48 (bytes c.args.space.now)) known c.in-Err.ensures.begins
