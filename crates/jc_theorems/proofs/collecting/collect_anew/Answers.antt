use Rattle.std.proofs.Common.{rules}
use Rattle.jc_theorems.proofs.collecting.collect_anew.Goals as goal

pub returns-clause-run : goal.returns-clause-run
returns-clause-run g c = search rules
