-- What the bytes of a source say. (own)
use Rattle.std.specs.Prelude.{◌≡◌, ◌+◌, ◌^◌, ◌⊎◌, ℕ, List, Option, Some, None, option_map, take, ⊤}
use Rattle.jc_base.specs.LimitBounds.{AreDefaults}
use Rattle.jc_base.specs.LogEntry.{LogEntry}
use Rattle.jc_base.specs.Reading.{Reading}
use Rattle.jc_base.specs.declared.fault.Ending.{Ending}
use Rattle.jc_base.specs.declared.fault.Ending.TheVariants.{End, Bad}
use Rattle.jc_base.specs.declared.fault.Fault.{Fault}
use Rattle.jc_base.specs.declared.limits.Limits.{Limits}
use Rattle.jc_sender.specs.Reads.{ReadsAs}
use Rattle.jc_command_shared.specs.declared.failure.Failure.{Failure}
use Rattle.jc_command_shared.specs.declared.failure.Failure.TheVariants as failure
use Rattle.jc_command_args.specs.declared.request.InputKind.{InputKind}
use Rattle.jc_command_args.specs.declared.request.InputKind.TheVariants.{Export, File}

-- the most bytes of a journal file under the default limits (docs/FORMATS.md, "Limits")
abbrev pub most_file_bytes : ℕ
most_file_bytes = 2 ^ 30

-- This is so of these bytes, or of some where they aren't known.
abbrev pub OfBytes : (known : Option (List ℕ)) → (List ℕ → Type 0) → Type 0
OfBytes None Says = (bytes : List ℕ) × Says bytes
OfBytes (Some bytes) Says = Says bytes

-- what is read of a source that has these bytes: all of an export stream, and of a journal file no more than one byte over
-- its limit
abbrev pub read_of : InputKind → (held : Option (List ℕ)) → Option (List ℕ)
read_of Export held = held
read_of File held = option_map (λ bytes. take (most_file_bytes + 1) bytes) held

-- These bytes are read of a file that has those: all of them, or of a journal file that isn't a regular one no more than one
-- byte over its limit.
abbrev pub AreReadOf : InputKind → (held bytes : List ℕ) → Type 0
AreReadOf Export held bytes = bytes ≡ held
AreReadOf File held bytes = (bytes ≡ held) ⊎ (bytes ≡ take (most_file_bytes + 1) held)

abbrev pub IsEnd : Ending → Type 0
IsEnd ending = (left : ℕ) × (ending ≡ End left)

-- The bytes read so under the default limits, without a fault.
pub record ReadsWell (kind : InputKind) (bytes : List ℕ) (reading : Reading) : Type 0 where
  pub limits : Limits
  pub defaults : AreDefaults limits.name limits.value limits.fields limits.entry limits.file
  pub reads : ReadsAs kind limits bytes reading
  pub ends : IsEnd reading.ending

-- Under the default limits the bytes have this fault.
pub record HasFault (kind : InputKind) (bytes : List ℕ) (fault : Fault) : Type 0 where
  pub limits : Limits
  pub defaults : AreDefaults limits.name limits.value limits.fields limits.entry limits.file
  pub reading : Reading
  pub reads : ReadsAs kind limits bytes reading
  pub ends : reading.ending ≡ Bad fault

-- The bytes have no fault, and these complete entries.
abbrev pub HasEntriesOf : InputKind → List ℕ → List LogEntry → Type 0
HasEntriesOf kind bytes entries = (reading : Reading) × ReadsWell kind bytes reading × (entries ≡ reading.entries)

-- Why nothing is read of these bytes: they have a fault, or memory was refused.
abbrev pub WhyNoEntries : InputKind → List ℕ → Failure → Type 0
WhyNoEntries kind bytes (failure.Bad fault) = HasFault kind bytes fault
WhyNoEntries kind bytes failure.OutOfMemory = ⊤
WhyNoEntries kind bytes _ = ⊥

-- Why nothing is read of a device: its bytes have the fault, or some where they aren't known, or they can't be read.
abbrev pub WhyNoSomeEntries : InputKind → (known : Option (List ℕ)) → Failure → Type 0
WhyNoSomeEntries kind known (failure.Bad fault) = OfBytes known (λ bytes. HasFault kind bytes fault)
WhyNoSomeEntries kind known failure.ReadFailed = ⊤
WhyNoSomeEntries kind known failure.OutOfMemory = ⊤
WhyNoSomeEntries kind known _ = ⊥
