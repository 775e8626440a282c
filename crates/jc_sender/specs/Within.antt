-- How many entries an upload has room for whose bytes are bounded. (own)
use Rattle.std.specs.Prelude.{◌≡◌, ◌+◌, ◌<◌, ◌≤◌, ℕ, List, Option, Some, None, flat_map, length, take}
use Rattle.jc_base.specs.LogEntry.{LogEntry}
use Rattle.jc_export.specs.Canonical.{canon}

-- The greatest number of entries, of those there are, with which an upload has at most so many bytes: with one more it has
-- more. One it has in any case, if there is one.
pub record IsGreatest (most there : ℕ) (size : (count : ℕ) → ℕ) (count : ℕ) : Type 0 where
  pub within : count ≤ there
  pub fits : 1 < count → size count ≤ most
  pub full : count < there → (0 < count) × (most < size (count + 1))

-- so many bytes an upload of these entries has
abbrev pub upload_size : List LogEntry → ℕ
upload_size entries = 48 + length (flat_map canon entries)

-- As many of the first entries as an upload has room for, if its bytes are bounded.
abbrev pub IsKept : (most : Option ℕ) → (entries kept : List LogEntry) → Type 0
IsKept None entries kept = kept ≡ entries
IsKept (Some most) entries kept =
    (count : ℕ) × IsGreatest most (length entries) (λ n. upload_size (take n entries)) count × (kept ≡ take count entries)

-- What is left of so many bytes behind the first ones, if these aren't more.
abbrev pub IsRoom : (most size : ℕ) → Option ℕ → Type 0
IsRoom most size None = most < size
IsRoom most size (Some room) = size + room ≡ most
