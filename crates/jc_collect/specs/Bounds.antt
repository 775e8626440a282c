-- Bounds on what an upload has. (own)
use Rattle.std.specs.Prelude.{ℕ, ◌≡◌, ◌+◌, ◌≤◌, List, [], ◌∷◌, ◌++◌, length}
use Rattle.std.specs.List.{sum_by}
use Rattle.jc_base.specs.LogEntry.{LogEntry}
use Rattle.jc_base.specs.Pair.{weight}
use Rattle.jc_collect.specs.Touched.{window_count}
use Rattle.jc_collect.specs.declared.bounds.Bounds.{Bounds}

-- the fields of some entries
abbrev pub field_count : List LogEntry → ℕ
field_count entries = sum_by (λ e. length e.body.pairs) entries

-- the bytes of their names and values
abbrev pub value_bytes : List LogEntry → ℕ
value_bytes entries = sum_by (λ e. sum_by weight e.body.pairs) entries

-- The entries keep the bounds but that on windows.
pub record AreFew (bounds : Bounds) (entries : List LogEntry) : Type 0 where
  pub number : length entries ≤ bounds.entries
  pub fields : field_count entries ≤ bounds.fields
  pub bytes : value_bytes entries ≤ bounds.bytes

-- ... and that on windows.
pub record AreWithin (bounds : Bounds) (entries : List LogEntry) : Type 0 where
  pub few : AreFew bounds entries
  pub windows : window_count entries ≤ bounds.windows

-- The entry at this place, from 0, is the first one with which the entries pass a bound.
pub record PassesAt (bounds : Bounds) (entries : List LogEntry) (place : ℕ) : Type 0 where
  pub before : List LogEntry
  pub entry : LogEntry
  pub behind : List LogEntry
  pub split : entries ≡ before ++ entry ∷ behind
  pub placed : place ≡ length before
  pub within : AreWithin bounds before
  pub passes : ¬ AreWithin bounds (before ++ entry ∷ [])

-- These bounds are left behind some entries, but for that on windows.
pub record IsLeft (bounds : Bounds) (given : List LogEntry) (left : Bounds) : Type 0 where
  pub number : left.entries + length given ≡ bounds.entries
  pub fields : left.fields + field_count given ≡ bounds.fields
  pub bytes : left.bytes + value_bytes given ≡ bounds.bytes
