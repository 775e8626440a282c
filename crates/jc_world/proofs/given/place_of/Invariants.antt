use Rattle.std.proofs.Common.{◌≡◌, ℕ, ◌<◌, get_or}
use Rattle.jc_world.specs.State.{MachineState, source_of}
use Rattle.jc_world.proofs.given.place_of.Given as goal

abbrev pub invariant-loop-place : goal.invariant-loop-place
invariant-loop-place l = (k : ℕ) (d : MachineState) → k < l.place → ¬ (source_of (get_or l.machines k d) ≡ l.source)
