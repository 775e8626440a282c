-- A reading of which a source has given a part.
use Rattle.std.proofs.Common.{◌≡◌, ℕ, ◌+◌, ◌++◌, List, Option, Some, None, length}
use Rattle.std.specs.Prelude.{⊤}
use Rattle.jc_base.specs.LogEntry.{LogEntry}
use Rattle.jc_base.specs.Reading.{Reading}

-- So many entries of a reading, where it is known, were given, and this reading is still to come.
abbrev pub CountsOn : Option Reading → ℕ → Option Reading → Type 0
CountsOn None count now = ⊤
CountsOn (Some known) count None = ⊥
CountsOn (Some known) count (Some now) = (length known.entries ≡ count + length now.entries) × (now.ending ≡ known.ending)

-- These entries of a reading, where it is known, were given, and this reading is still to come.
abbrev pub FollowsOn : Option Reading → List LogEntry → Option Reading → Type 0
FollowsOn None entries now = ⊤
FollowsOn (Some known) entries None = ⊥
FollowsOn (Some known) entries (Some now) = (known.entries ≡ entries ++ now.entries) × (now.ending ≡ known.ending)
