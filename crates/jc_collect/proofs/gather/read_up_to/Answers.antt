use Rattle.std.proofs.Common.{rules}
use Rattle.jc_collect.proofs.gather.read_up_to.Goals as goal

pub returns-then-count-eq0-clause-end : goal.returns-then-count-eq0-clause-end
returns-then-count-eq0-clause-end g c = search rules
