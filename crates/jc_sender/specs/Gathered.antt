-- What is known of a reading once a source has given it.
use Rattle.std.specs.Prelude.{◌≡◌, ℕ, List, length, ⊤, Option, Some, None, Result, Err}
use Rattle.std.specs.Prelude.{◌⊎◌}
use Rattle.jc_base.specs.Device.{Rose}
use Rattle.jc_base.specs.LogEntry.{LogEntry}
use Rattle.jc_base.specs.Reading.{Reading}
use Rattle.jc_base.specs.declared.fault.Ending.{Ending}
use Rattle.jc_base.specs.declared.source.Stop.{Stop}
use Rattle.jc_base.specs.declared.source.Stop.TheVariants.{ReadFailed}

-- The reading, if it is known, has this many entries, and ends so.
abbrev pub HasCount : Option Reading → (count : ℕ) → Ending → Type 0
HasCount None count ending = ⊤
HasCount (Some reading) count ending = (count ≡ length reading.entries) × (ending ≡ reading.ending)

-- The reading, if it is known, is these entries, and ends so.
abbrev pub HasEntries : Option Reading → List LogEntry → Ending → Type 0
HasEntries None entries ending = ⊤
HasEntries (Some reading) entries ending = (entries ≡ reading.entries) × (ending ≡ reading.ending)

-- A source says that its device failed only if the device's count has risen, or if it said so before.
abbrev pub FailedAtDevice : Option (Result Ending Stop) → (before now : ℕ) → Type 0
FailedAtDevice last before now = Rose before now ⊎ (last ≡ Some (Err ReadFailed))
