use Rattle.std.proofs.Common.{rules}
use Rattle.jc_collect.proofs.inspect.inspect_unread.Goals as goal

pub returns-in-Fault : goal.returns-in-Fault
returns-in-Fault c = search rules
