-- What acknowledgements say of the uploads that they were given to. (own)
use Rattle.std.specs.Prelude.{ℕ, ◌≡◌, List, Option, Some, IfSome, length, slice_get}
use Rattle.std.specs.List.{All}
use Rattle.jc_base.specs.declared.fault.Ending.TheVariants.{End}
use Rattle.jc_base.specs.declared.id.Id128.{Id128}
use Rattle.jc_base.specs.declared.limits.Limits.{Limits}
use Rattle.jc_base.specs.LimitBounds.{AreDefaults}
use Rattle.jc_base.specs.LogEntry.{LogEntry}
use Rattle.jc_base.specs.Reading.{Reading}
use Rattle.jc_collect.specs.Answer.{named_by}
use Rattle.jc_upload.specs.declared.answer.Answer.{Answer}
use Rattle.jc_upload.specs.declared.answer.Answer.TheVariants.{Ack}
use Rattle.jc_upload.specs.declared.head.UploadHead.{UploadHead}
use Rattle.jc_upload.specs.Says.{SaysBehind}

-- An upload with these bytes names this source and start in its header, and reads so under the default limits: all of it but
-- so many bytes, which are left.
pub record ReadsAs (upload : List ℕ) (source : Id128) (start left : ℕ) (reading : Reading) : Type 0 where
  pub limits : Limits
  pub defaults : AreDefaults limits.name limits.value limits.fields limits.entry limits.file
  pub head : UploadHead
  pub says : SaysBehind limits upload head reading
  pub named : (source, start) ≡ named_by head
  pub ended : reading.ending ≡ End left

-- There is a reading with as many entries as are counted, of each of which this holds. It is the upload's, if the bytes of
-- that are known.
pub record IsAcknowledged (Holds : LogEntry → Type 0) (upload : Option (List ℕ)) (source : Id128) (start count left : ℕ) : Type 0 where
  pub reading : Reading
  pub counted : count ≡ length reading.entries
  pub holds : All Holds reading.entries
  pub reads : IfSome upload (λ bytes. ReadsAs bytes source start left reading)

-- This holds of the entries of each upload whose answer is an acknowledgement.
abbrev pub AreAcknowledged : (Holds : LogEntry → Type 0) → List (Option (List ℕ)) → List Answer → Type 0
AreAcknowledged Holds uploads answers =
    (i : ℕ) (source : Id128) (start count new left : ℕ) → slice_get answers i ≡ Some (Ack source start count new left)
    → (upload : Option (List ℕ)) × (slice_get uploads i ≡ Some upload) × IsAcknowledged Holds upload source start count left

-- ---- one upload, all of which is acknowledged

-- Of the uploads each one whose answer acknowledges so many entries of this source, from the first one on, and nothing left, has
-- these bytes, which are known. Of any other nothing is asked.
abbrev pub AcknowledgeNoOther : (source : Id128) (count : ℕ) (upload : List ℕ) → List (Option (List ℕ)) → List Answer → Type 0
AcknowledgeNoOther source count upload uploads answers =
    (i new : ℕ) → slice_get answers i ≡ Some (Ack source 0 count new 0) → (known : Option (List ℕ)) → slice_get uploads i ≡ Some known
    → known ≡ Some upload

-- Of all that the upload reads as this holds: nothing of it is left.
pub record HoldsOfAll (Holds : LogEntry → Type 0) (upload : List ℕ) : Type 0 where
  pub source : Id128
  pub reading : Reading
  pub reads : ReadsAs upload source 0 0 reading
  pub holds : All Holds reading.entries
