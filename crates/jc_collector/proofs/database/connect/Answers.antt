use Rattle.std.proofs.Common.{rules}
use Rattle.jc_collector.proofs.database.connect.Goals as goal

pub returns-in-Ok-clause-touched : goal.returns-in-Ok-clause-touched
returns-in-Ok-clause-touched g c = search rules
