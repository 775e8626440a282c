-- A world: machines that send their entries, and the collector that they send them to. (own)
use Rattle.std.specs.Prelude.{ℕ, ◌≡◌, List, [], ◌∷◌, ◌++◌, map, slice_get, slice_set, Some}
use Rattle.jc_base.specs.Journal.{Journal}
use Rattle.jc_base.specs.LogEntry.{LogEntry}
use Rattle.jc_base.specs.declared.id.Id128.{Id128}
use Rattle.jc_upload.specs.declared.answer.Answer.{Answer}
use Rattle.jc_upload.specs.Resume.{Point, start}
use Rattle.jc_upload.specs.Upload.{Sender}

-- A machine: its source's id and its resume point, its entries, and the resume points that it saved.
pub record MachineState : Type 0 where
  pub sender : Sender
  pub entries : List LogEntry
  pub saved : List Point

abbrev pub source_of : MachineState → Id128
source_of machine = machine.sender.source

-- What there is: the machines, every upload that was made, every answer that was given, and the collector's journal.
pub record State : Type 0 where
  pub machines : List MachineState
  pub uploads : List (List ℕ)
  pub answers : List Answer
  pub journal : Journal

-- the ids of the machines' sources
abbrev pub sources : State → List Id128
sources s = map source_of s.machines

-- No id stands twice.
abbrev pub AreDistinct : List Id128 → Type 0
AreDistinct ids = (i j : ℕ) (id : Id128) → slice_get ids i ≡ Some id → slice_get ids j ≡ Some id → i ≡ j

-- ---- the beginning

-- A machine without entries. Its resume point is position 0, which is its first saved one.
abbrev pub new_machine : Id128 → MachineState
new_machine source = record { sender = record { source = source; point = start }; entries = []; saved = start ∷ [] }

abbrev pub new_state : List Id128 → Journal → State
new_state ids journal = record { machines = map new_machine ids; uploads = []; answers = []; journal = journal }

-- ---- a state with one thing more, or one thing changed

abbrev pub with_machine : State → ℕ → MachineState → State
with_machine s m machine = record s { machines = slice_set s.machines m machine }

abbrev pub with_upload : State → List ℕ → State
with_upload s upload = record s { uploads = s.uploads ++ upload ∷ [] }

-- ... with one answer more, and the journal after it
abbrev pub with_answer : State → Answer → Journal → State
with_answer s answer journal = record s { answers = s.answers ++ answer ∷ []; journal = journal }

abbrev pub with_entry : MachineState → LogEntry → MachineState
with_entry machine entry = record machine { entries = machine.entries ++ entry ∷ [] }

-- the machine back at a resume point
abbrev pub with_point : MachineState → Point → MachineState
with_point machine point = record machine { sender = record { source = machine.sender.source; point = point } }

-- the machine at a resume point that it saved
abbrev pub with_saved : MachineState → Point → MachineState
with_saved machine point = record (with_point machine point) { saved = machine.saved ++ point ∷ [] }
