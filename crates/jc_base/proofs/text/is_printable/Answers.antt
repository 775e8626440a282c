use Rattle.std.proofs.Common.{rules}
use Rattle.jc_base.proofs.text.is_printable.Goals as goal

pub returns : goal.returns
returns c = search rules
