use Rattle.std.proofs.Common.{length, ◌-◌}
use Rattle.jc_base.specs.Device.{WentOut}
use Rattle.jc_command_shared.proofs.output.write_front.Given as goal

-- a front of the text went out
abbrev pub invariant-loop-at : goal.invariant-loop-at
invariant-loop-at g l = WentOut (g.O.Write.contents l.fn.output) (g.O.Write.contents l.output) l.text l.at

abbrev pub decreases-loop-at : goal.decreases-loop-at
decreases-loop-at g l = length l.text - l.at
