-- What `verify` says of a reading. (own)
use Rattle.std.specs.Prelude.{ℕ, List, Option, length}
use Rattle.jc_base.specs.LimitBounds.{AreDefaults}
use Rattle.jc_base.specs.Reading.{Reading}
use Rattle.jc_base.specs.declared.fault.Ending.{Ending}
use Rattle.jc_base.specs.declared.limits.Limits.{Limits}
use Rattle.jc_sender.specs.Reads.{EndsAs, ReadsAs}
use Rattle.jc_sender.specs.Source.{AreReadOf}
use Rattle.jc_command_shared.specs.Found.{PrintsFound, reading_found}
use Rattle.jc_command_shared.specs.declared.status.Status.{Status}
use Rattle.jc_command_args.specs.declared.request.InputKind.{InputKind}

-- The output gained the line of a reading, and the status is that reading's.
abbrev pub PrintsReading : (count : ℕ) → Ending → Status → (old new : Option (List ℕ)) → Type 0
PrintsReading count ending status old new = PrintsFound (reading_found count ending) status old new

-- The output gained the line of some reading, which ends as one of that kind under the default limits, and the status is
-- that reading's.
pub record PrintsSomeReading (kind : InputKind) (status : Status) (old new : Option (List ℕ)) : Type 0 where
  pub limits : Limits
  pub defaults : AreDefaults limits.name limits.value limits.fields limits.entry limits.file
  pub count : ℕ
  pub ending : Ending
  pub ends : EndsAs kind limits ending
  pub printed : PrintsReading count ending status old new

-- The output gained the line of what the bytes say under the default limits, and the status is that of this line.
pub record PrintsReadingOf (kind : InputKind) (bytes : List ℕ) (status : Status) (old new : Option (List ℕ)) : Type 0 where
  pub limits : Limits
  pub defaults : AreDefaults limits.name limits.value limits.fields limits.entry limits.file
  pub reading : Reading
  pub reads : ReadsAs kind limits bytes reading
  pub printed : PrintsReading (length reading.entries) reading.ending status old new

-- The output gained the line of what is read of a file that has these bytes.
abbrev pub PrintsReadingIn : InputKind → (held : List ℕ) → Status → (old new : Option (List ℕ)) → Type 0
PrintsReadingIn kind held status old new = (bytes : List ℕ) × AreReadOf kind held bytes × PrintsReadingOf kind bytes status old new
