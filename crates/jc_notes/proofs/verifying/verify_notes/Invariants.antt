use Rattle.std.proofs.Common.{◌≡◌, ◌⊎◌, take}
use Rattle.jc_command_shared.specs.declared.status.Status.TheVariants.{Success, Refused}
use Rattle.jc_sequences.specs.Placed.{path_of}
use Rattle.jc_notes.specs.Each.{PrintsEach}
use Rattle.jc_notes.specs.Printed.{IsSummedIf}
use Rattle.jc_notes.proofs.verifying.verify_notes.Given as goal

abbrev pub invariant-loop-name : goal.invariant-loop-name
invariant-loop-name g l = record {
  status : (l.status ≡ Success) ⊎ (l.status ≡ Refused);
  printed : PrintsEach (λ name. IsSummedIf (g.R.System.found (path_of l.folder name)) name) (take l.name-index l.windows) l.status (g.O.Write.contents l.fn.output) (g.O.Write.contents l.output);
}
