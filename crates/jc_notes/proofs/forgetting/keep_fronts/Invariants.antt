use Rattle.std.proofs.Common.{None, take}
use Rattle.jc_command_shared.specs.Deeds.{ChangesOnly}
use Rattle.jc_notes.specs.Changed.{IsInFolder, IsKeptFront}
use Rattle.jc_notes.specs.Each.{WorksEach}
use Rattle.jc_notes.proofs.forgetting.keep_fronts.Given as goal

abbrev pub invariant-loop-front : goal.invariant-loop-front
invariant-loop-front g l = record {
  touched : ChangesOnly (IsInFolder l.folder) (g.R.System.deeds l.fn.rt) (g.R.System.deeds l.rt);
  kept : WorksEach (IsKeptFront g.R.System.found l.folder) (take l.front-index l.fronts) None None (g.R.System.deeds l.fn.rt) (g.R.System.deeds l.rt);
}
