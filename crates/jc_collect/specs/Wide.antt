-- Uploads that touch too many windows of sequences. (own)
use Rattle.std.specs.Prelude.{◌≡◌, ◌≢◌, ◌⊎◌, ◌^◌, ◌-◌, ℕ, List, IsTrue}
use Rattle.jc_base.specs.declared.fault.Code.TheVariants.{NotTheOwner, StoreFailed}
use Rattle.jc_base.specs.Fault.{number_of}
use Rattle.jc_base.specs.Reading.{Reading}
use Rattle.jc_base.specs.declared.limits.Limits.{Limits}
use Rattle.jc_upload.specs.Says.{Says}
use Rattle.jc_upload.specs.declared.answer.Answer.{Answer}
use Rattle.jc_upload.specs.declared.answer.Answer.TheVariants.{Ack, No}
use Rattle.jc_collect.specs.Answer.{is_failure_code}
use Rattle.jc_collect.specs.Bounds.{AreWithin}
use Rattle.jc_collect.specs.Inspected.{IsOver}
use Rattle.jc_collect.specs.declared.bounds.Bounds.{Bounds}

-- the code of an upload that passes a bound
abbrev pub over_bounds : ℕ
over_bounds = 6

-- Bounds on windows, and on nothing else that there is.
abbrev pub windows_alone : ℕ → Bounds
windows_alone windows = record { entries = 2 ^ 64 - 1; fields = 2 ^ 64 - 1; bytes = 2 ^ 64 - 1; windows = windows }

-- The upload keeps the bounds, as far as it reads.
pub record KeepsBounds (limits : Limits) (bounds : Bounds) (upload : List ℕ) : Type 0 where
  pub reading : Reading
  pub says : Says limits upload reading
  pub within : AreWithin bounds reading.entries

-- The answer names the first entry with which the upload passes the bounds; or it couldn't be read, or memory was refused.
abbrev pub RefusesOver : Limits → Bounds → (upload : List ℕ) → Answer → Type 0
RefusesOver limits bounds upload (Ack source start count new left) = ⊥
RefusesOver limits bounds upload (No of code place) = ((code ≡ over_bounds) × IsOver limits bounds upload place) ⊎ IsTrue (is_failure_code code)

-- It says that nothing was stored, and neither since a sequence belongs to another machine, nor since the store failed.
abbrev pub IsRefusal : Answer → Type 0
IsRefusal (Ack source start count new left) = ⊥
IsRefusal (No of code place) = (code ≢ number_of NotTheOwner) × (code ≢ number_of StoreFailed)
