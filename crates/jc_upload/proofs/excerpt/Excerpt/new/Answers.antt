use Rattle.std.proofs.Common.{refl}
use Rattle.jc_upload.proofs.Excerpts.{starts}
use Rattle.jc_upload.proofs.excerpt.Excerpt.new.Goals as goal

pub returns-clause-none : goal.returns-clause-none
returns-clause-none c = λ position limit. starts position limit _ refl refl c.new.ensures.items
