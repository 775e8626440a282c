-- What was passed is masked.
use Rattle.std.proofs.Common.{take}
use Rattle.jc_render.specs.Terminal.{Masks}
use Rattle.jc_render.proofs.terminal.Ahead.mask.Given as goal

abbrev pub invariant-loop-at : goal.invariant-loop-at
invariant-loop-at l = Masks l.fn.self (take l.at l.bytes) (take l.at l.piece) l.self
