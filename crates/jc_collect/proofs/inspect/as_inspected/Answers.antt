use Rattle.std.proofs.Common.{rules}
use Rattle.jc_collect.proofs.inspect.as_inspected.Goals as goal

pub returns-in-Ended-End : goal.returns-in-Ended-End
returns-in-Ended-End c = search rules
