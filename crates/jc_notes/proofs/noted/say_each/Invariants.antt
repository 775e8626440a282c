use Rattle.std.proofs.Common.{take}
use Rattle.jc_command_shared.specs.declared.status.Status.TheVariants.{Success}
use Rattle.jc_notes.specs.Each.{PrintsEach}
use Rattle.jc_notes.specs.Found.{KeepsRead}
use Rattle.jc_notes.specs.Printed.{IsNotedTold}
use Rattle.jc_notes.proofs.noted.say_each.Given as goal

abbrev pub invariant-loop-key : goal.invariant-loop-key
invariant-loop-key g l = record {
  kept : KeepsRead g.R.System.found l.folder l.notes;
  printed : PrintsEach (IsNotedTold g.R.System.found l.folder) (take l.key-index l.keys) Success (g.O.Write.contents l.fn.output) (g.O.Write.contents l.output);
}
