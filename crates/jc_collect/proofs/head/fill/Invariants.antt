use Rattle.std.proofs.Common.{◌-◌, ◌≤◌, length, take}
use Rattle.std.specs.Io.KnownBytes.{Consumes}
use Rattle.jc_collect.proofs.head.fill.Given as goal

-- what came stands in the bytes
abbrev pub invariant-pieces : goal.invariant-pieces
invariant-pieces g l =
    let device = g.R.ByteStream in
    record {
      within : l.came ≤ length l.bytes;
      got : Consumes (device.remaining l.fn.device) (device.remaining l.device) (take l.came l.bytes);
      count : device.failures l.fn.device ≤ device.failures l.device;
    }

abbrev pub decreases-pieces : goal.decreases-pieces
decreases-pieces g l = length l.bytes - l.came
