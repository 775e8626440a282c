use Rattle.std.proofs.Common.{rules}
use Rattle.jc_world.proofs.world.World.answers.Goals as goal

pub returns : goal.returns
returns g c = search rules
