-- What bounds leave behind entries.
use Rattle.std.proofs.Common.{◌≡◌, ◌+◌, ◌<◌, ◌≤◌, ◌⊎◌, ◌++◌, List, [], ◌∷◌, arith, inl, inr, length, refl}
use Rattle.std.specs.List.{sum_by}
use Rattle.std.proofs.lemmas.List.{length-append}
use Rattle.std.proofs.lemmas.List.Sums.{sum_by-append}
use Rattle.std.specs.BTreeSet.{insert_key}
use Rattle.jc_base.specs.declared.id.Key.{Key}
use Rattle.jc_base.specs.Journal.{key_cmp}
use Rattle.jc_base.specs.LogEntry.{LogEntry}
use Rattle.jc_base.specs.Pair.{Pair, weight}
use Rattle.jc_collect.specs.Bounds.{AreFew, AreWithin, IsLeft, field_count, value_bytes}
use Rattle.jc_collect.specs.Touched.{window_count, window_of, windows_from}
use Rattle.jc_collect.specs.declared.bounds.Bounds.{Bounds}

pub none_within : (bounds : Bounds) → AreWithin bounds []
none_within bounds = record {
  few = record { number = omega arith; fields = omega arith; bytes = omega arith };
  windows = omega arith;
}

pub within : (bounds room : Bounds) (given : List LogEntry) → IsLeft bounds given room → window_count given ≤ bounds.windows
    → AreWithin bounds given
within bounds room given left wide = record {
  few = record { number = omega (arith, left.number); fields = omega (arith, left.fields); bytes = omega (arith, left.bytes) };
  windows = wide;
}

-- the windows with one entry more
pub window_more : (windows : List Key) (given : List LogEntry) (e : LogEntry)
    → windows_from windows (given ++ e ∷ []) ≡ insert_key key_cmp (windows_from windows given) (window_of e)
window_more windows [] e = refl
window_more windows (d ∷ given) e = window_more (insert_key key_cmp windows (window_of d)) given e

module _ (given : List LogEntry) (e : LogEntry) where
  number_more : length (given ++ e ∷ []) ≡ length given + length (e ∷ [])
  number_more = length-append given (e ∷ [])

  fields_more : field_count (given ++ e ∷ []) ≡ field_count given + field_count (e ∷ [])
  fields_more = sum_by-append (λ (d : LogEntry). length d.body.pairs) given (e ∷ [])

  bytes_more : value_bytes (given ++ e ∷ []) ≡ value_bytes given + value_bytes (e ∷ [])
  bytes_more = sum_by-append (λ (d : LogEntry). sum_by weight d.body.pairs) given (e ∷ [])

pub left_behind : (bounds room less : Bounds) (given : List LogEntry) (e : LogEntry) → IsLeft bounds given room
    → IsLeft room (e ∷ []) less → IsLeft bounds (given ++ e ∷ []) less
left_behind bounds room less given e left behind = record {
  number = omega (arith, left.number, behind.number, number_more given e);
  fields = omega (arith, left.fields, behind.fields, fields_more given e);
  bytes = omega (arith, left.bytes, behind.bytes, bytes_more given e);
}

pub passes_behind : (bounds room : Bounds) (given : List LogEntry) (e : LogEntry) → IsLeft bounds given room
    → (bounds.windows < window_count (given ++ e ∷ [])) ⊎ ¬ AreFew room (e ∷ []) → ¬ AreWithin bounds (given ++ e ∷ [])
passes_behind bounds room given e left (inl wide) = λ holds. omega (arith, wide, holds.windows)
passes_behind bounds room given e left (inr passes) = λ holds. passes (record {
  number = omega (arith, left.number, holds.few.number, number_more given e);
  fields = omega (arith, left.fields, holds.few.fields, fields_more given e);
  bytes = omega (arith, left.bytes, holds.few.bytes, bytes_more given e);
})

-- ---- the fields of an entry, one by one

-- So much is left of the bounds behind an entry's first fields; the others are still to come.
pub record LeavesSoFar (bounds : Bounds) (all rest : List Pair) (left : Bounds) : Type 0 where
  pub number : left.entries + 1 ≡ bounds.entries
  pub fields : left.fields + length all ≡ bounds.fields + length rest
  pub bytes : left.bytes + sum_by weight all ≡ bounds.bytes + sum_by weight rest
