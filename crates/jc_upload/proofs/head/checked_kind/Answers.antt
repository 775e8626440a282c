use Rattle.std.proofs.Common.{rules}
use Rattle.jc_upload.proofs.HeadLemmas.{kind_unknown}
use Rattle.jc_upload.proofs.head.checked_kind.Goals as goal

pub returns-in-None : goal.returns-in-None
returns-in-None c = kind_unknown c.args.bytes.now (search rules) (c.has_magic.ensures.0 (search rules)) c.in-None.ensures

pub returns-then-not-has_magic : goal.returns-then-not-has_magic
returns-then-not-has_magic c = search rules
