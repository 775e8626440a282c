use Rattle.std.proofs.Common.{take}
use Rattle.jc_command_shared.specs.Deeds.{ChangesOnly}
use Rattle.jc_notes.specs.Changed.{IsInFolder}
use Rattle.jc_notes.specs.Each.{WorksEach}
use Rattle.jc_notes.specs.Printed.{IsRenamingIf}
use Rattle.jc_notes.proofs.owners.rename_each.Given as goal

abbrev pub invariant-loop-name : goal.invariant-loop-name
invariant-loop-name g l = record {
  touched : ChangesOnly (IsInFolder l.folder) (g.R.System.deeds l.fn.rt) (g.R.System.deeds l.rt);
  renamed : WorksEach (IsRenamingIf g.R.System.found l.folder l.from l.to) (take l.name-index l.windows) (g.O.Write.contents l.fn.output) (g.O.Write.contents l.output)
      (g.R.System.deeds l.fn.rt) (g.R.System.deeds l.rt);
}
