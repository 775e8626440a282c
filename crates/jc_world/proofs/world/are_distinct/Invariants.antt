use Rattle.jc_world.proofs.Distinct.{AreNewBelow}
use Rattle.jc_world.proofs.world.are_distinct.Given as goal

abbrev pub invariant-loop-place : goal.invariant-loop-place
invariant-loop-place l = AreNewBelow l.ids l.place
