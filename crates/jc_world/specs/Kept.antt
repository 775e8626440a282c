-- What holds of a world from its beginning on, after every step: when a machine may delete what it sent. (own)
use Rattle.std.specs.Prelude.{ℕ, ◌≡◌, ◌+◌, ◌≤◌, ◌⊎◌, ⊤, List, length, take, drop, flat_map}
use Rattle.std.specs.List.{All, Contains}
use Rattle.jc_base.specs.Journal.{Journal}
use Rattle.jc_base.specs.LogEntry.{IsEntry, LogEntry}
use Rattle.jc_base.specs.Reading.{IsFront}
use Rattle.jc_base.specs.declared.limits.Limits.{Limits}
use Rattle.jc_export.specs.Canonical.{canon}
use Rattle.jc_keeper.specs.Agree.{IsStored}
use Rattle.jc_upload.specs.declared.answer.Answer.{Answer}
use Rattle.jc_upload.specs.declared.answer.Answer.TheVariants.{Ack, No}
use Rattle.jc_upload.specs.declared.head.Kind.TheVariants.{Export, File}
use Rattle.jc_upload.specs.declared.head.UploadHead.{UploadHead}
use Rattle.jc_upload.specs.Resume.{Point}
use Rattle.jc_upload.specs.Upload.{Agrees}
use Rattle.jc_upload.specs.Says.{HasHead}
use Rattle.jc_world.specs.Given.{FileReadsFront}
use Rattle.jc_world.specs.State.{AreDistinct, MachineState, State, source_of, sources}

-- ---- resume points

-- Every entry before a resume point is stored, as the machine itself has it.
pub record IsSafe (journal : Journal) (entries : List LogEntry) (point : Point) : Type 0 where
  pub agrees : Agrees point entries
  pub stored : All (IsStored journal) (take point.position entries)

-- So it is for the machine's resume point and for each that it saved.
pub record IsMachine (journal : Journal) (machine : MachineState) : Type 0 where
  pub lawful : All IsEntry machine.entries
  pub point : IsSafe journal machine.entries machine.sender.point
  pub saved : All (IsSafe journal machine.entries) machine.saved

-- ---- uploads

-- An upload has this machine's source in its header, and after it the canonical texts of some entries that the machine
-- has in one piece, from the header's start on.
pub record IsExportOf (machine : MachineState) (upload : List ℕ) : Type 0 where
  pub head : UploadHead
  pub kind : head.kind ≡ Export
  pub own : head.source ≡ source_of machine
  pub sent : List LogEntry
  pub has : HasHead upload head (flat_map canon sent)
  pub part : IsFront sent (drop head.start machine.entries)
  pub within : head.start + length sent ≤ length machine.entries

-- It has this machine's source in its header, and after it a journal file that reads without a fault as the machine's
-- first entries.
pub record IsFileOf (limits : Limits) (machine : MachineState) (upload : List ℕ) : Type 0 where
  pub head : UploadHead
  pub kind : head.kind ≡ File
  pub own : head.source ≡ source_of machine
  pub first : head.start ≡ 0
  pub file : List ℕ
  pub has : HasHead upload head file
  pub reads : FileReadsFront limits file machine.entries

-- One of the machines made the upload.
pub record IsMade (limits : Limits) (machines : List MachineState) (upload : List ℕ) : Type 0 where
  pub machine : MachineState
  pub one : Contains machines machine
  pub from : IsExportOf machine upload ⊎ IsFileOf limits machine upload

-- ---- answers

-- These entries of a machine, from a place on, are stored.
pub record AreStored (journal : Journal) (entries : List LogEntry) (start count : ℕ) : Type 0 where
  pub within : start + count ≤ length entries
  pub stored : All (IsStored journal) (take count (drop start entries))

-- What an ack says of a machine is so.
abbrev pub IsBacked : Journal → List MachineState → Answer → Type 0
IsBacked journal machines (Ack source start count new left) =
    (machine : MachineState) → Contains machines machine → source_of machine ≡ source
    → AreStored journal machine.entries start count
IsBacked journal machines (No of code place) = ⊤

-- ---- all of it

pub record IsKept (limits : Limits) (s : State) : Type 0 where
  pub distinct : AreDistinct (sources s)
  pub machines : All (IsMachine s.journal) s.machines
  pub made : All (IsMade limits s.machines) s.uploads
  pub backed : All (IsBacked s.journal s.machines) s.answers
