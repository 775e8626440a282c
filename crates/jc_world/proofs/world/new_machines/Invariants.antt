use Rattle.std.proofs.Common.{◌≡◌, map, take}
use Rattle.jc_world.specs.State.{new_machine}
use Rattle.jc_world.proofs.world.new_machines.Given as goal

abbrev pub invariant-loop-source : goal.invariant-loop-source
invariant-loop-source l = l.machines.items ≡ map new_machine (take l.source-index l.sources)
