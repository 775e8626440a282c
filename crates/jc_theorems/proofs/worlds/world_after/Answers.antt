use Rattle.std.proofs.Common.{rules}
use Rattle.jc_theorems.proofs.worlds.world_after.Goals as goal

pub returns-clause-world : goal.returns-clause-world
returns-clause-world g c = search rules
