use Rattle.std.proofs.Common.{◌≡◌, ◌⊎◌, take}
use Rattle.jc_command_shared.specs.declared.status.Status.TheVariants.{Success, Refused}
use Rattle.jc_notes.specs.Each.{PrintsEach}
use Rattle.jc_notes.specs.Printed.{IsListedIf}
use Rattle.jc_notes.proofs.owners.list_owners.Given as goal

abbrev pub invariant-loop-name : goal.invariant-loop-name
invariant-loop-name g l = record {
  status : (l.status ≡ Success) ⊎ (l.status ≡ Refused);
  printed : PrintsEach (IsListedIf g.R.System.found l.folder) (take l.name-index l.windows) l.status (g.O.Write.contents l.fn.output) (g.O.Write.contents l.output);
}
