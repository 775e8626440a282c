-- A machine by itself: what holds of its fields, and what its calls do. (own)
use Rattle.std.specs.Prelude.{◌≡◌, Bool, true, false, List, Option, Some, None, Result, Ok, Err}
use Rattle.std.specs.List.{All}
use Rattle.jc_base.specs.LogEntry.{LogEntry}
use Rattle.jc_upload.specs.declared.answer.Answer.{Answer}
use Rattle.jc_upload.specs.Resume.{Point}
use Rattle.jc_upload.specs.Upload.{Agrees, Sender}
use Rattle.jc_world.specs.Event.{MovesOn, moved_on}
use Rattle.jc_world.specs.State.{MachineState, with_point}

-- Every resume point is one that these entries have.
pub record IsInOrder (sender : Sender) (entries : List LogEntry) (saved : List Point) : Type 0 where
  pub now : Agrees sender.point entries
  pub each : All (λ point. Agrees point entries) saved

-- An answer moves the machine's resume point on, or all stays. So it does without an answer to the call.
abbrev pub TakesAnswer : {E : Type 0} → (before : MachineState) → Answer → Result Bool E → (after : MachineState) → Type 0
TakesAnswer machine answer (Ok true) after = MovesOn machine answer × (after ≡ moved_on machine answer)
TakesAnswer machine answer (Ok false) after = (¬ MovesOn machine answer) × (after ≡ machine)
TakesAnswer machine answer (Err refused) after = after ≡ machine

-- The machine is back at the saved point with this number, or there is none.
abbrev pub GoesBack : (before : MachineState) → Option Point → Bool → (after : MachineState) → Type 0
GoesBack machine (Some point) went after = (went ≡ true) × (after ≡ with_point machine point)
GoesBack machine None went after = (went ≡ false) × (after ≡ machine)
