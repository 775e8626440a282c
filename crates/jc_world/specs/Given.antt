-- What is found in bytes that are given to a world. (own)
use Rattle.std.specs.Prelude.{ℕ, ◌≡◌, ◌⊎◌, List, slice_get, Option, Some, Result, Err}
use Rattle.jc_base.specs.Device.{Rose}
use Rattle.jc_base.specs.LogEntry.{LogEntry}
use Rattle.jc_base.specs.Reading.{IsFront, Reading}
use Rattle.jc_base.specs.declared.fault.Ending.{Ending}
use Rattle.jc_base.specs.declared.fault.Ending.TheVariants.{End}
use Rattle.jc_base.specs.declared.id.Id128.{Id128}
use Rattle.jc_base.specs.declared.limits.Limits.{Limits}
use Rattle.jc_base.specs.declared.source.Stop.{Stop}
use Rattle.jc_base.specs.declared.source.Stop.TheVariants.{ReadFailed}
use Rattle.jc_file.specs.FileReading.{IsFileReading}
use Rattle.jc_upload.specs.declared.head.UploadHead.{UploadHead}
use Rattle.jc_upload.specs.Says.{HasHead}
use Rattle.jc_world.specs.State.{MachineState, source_of}

-- A reading without a fault and without bytes left over is the first of these entries.
pub record ReadsFront (entries : List LogEntry) (reading : Reading) : Type 0 where
  pub ends : reading.ending ≡ End 0
  pub front : IsFront reading.entries entries

-- So reads a journal file with these bytes.
abbrev pub FileReadsFront : Limits → (file : List ℕ) → List LogEntry → Type 0
FileReadsFront limits file entries = (reading : Reading) × IsFileReading limits file reading × ReadsFront entries reading

-- Bytes begin with a header.
abbrev pub BeginsWith : List ℕ → UploadHead → Type 0
BeginsWith bytes head = (body : List ℕ) × HasHead bytes head body

-- A machine with this source stands at this place.
pub record StandsAt (machines : List MachineState) (source : Id128) (place : ℕ) : Type 0 where
  pub machine : MachineState
  pub at : slice_get machines place ≡ Some machine
  pub own : source_of machine ≡ source

-- A source says that its device failed only if the device's count has risen, or if it said so before.
abbrev pub FailedAtDevice : Option (Result Ending Stop) → (before now : ℕ) → Type 0
FailedAtDevice last before now = Rose before now ⊎ (last ≡ Some (Err ReadFailed))
