use Rattle.std.proofs.Common.{rules}
use Rattle.jc_command.proofs.run.list_codes.Goals as goal

pub returns-clause-printed : goal.returns-clause-printed
returns-clause-printed g c = search rules
