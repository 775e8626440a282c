-- Which uploads of a list are accepted, and what is stored before each of them. (own)
use Rattle.std.specs.Prelude.{ℕ, ◌≡◌, ◌<◌, ◌⊎◌, ◌↔◌, Bool, true, List, length, slice_get, Some}
use Rattle.std.specs.List.{Contains}
use Rattle.jc_base.specs.declared.fault.Ending.TheVariants.{End}
use Rattle.jc_base.specs.declared.limits.Limits.{Limits}
use Rattle.jc_base.specs.Journal.{Journal}
use Rattle.jc_base.specs.LogEntry.{LogEntry}
use Rattle.jc_base.specs.Reading.{Reading}
use Rattle.jc_keeper.specs.Agree.{IsStored}
use Rattle.jc_upload.specs.Says.{Says}

-- The position is one of a set of positions, which has a mark for each position of a list.
abbrev pub IsMarked : List Bool → ℕ → Type 0
IsMarked marks i = slice_get marks i ≡ Some true

-- What the upload at a position says.
pub record SaysAt (limits : Limits) (uploads : List (List ℕ)) (i : ℕ) (reading : Reading) : Type 0 where
  pub upload : List ℕ
  pub at : slice_get uploads i ≡ Some upload
  pub says : Says limits upload reading

-- The entry is one that the upload at a position says.
pub record SaysEntry (limits : Limits) (uploads : List (List ℕ)) (i : ℕ) (e : LogEntry) : Type 0 where
  pub reading : Reading
  pub says : SaysAt limits uploads i reading
  pub has : Contains reading.entries e

-- The entry is one of an accepted upload before a position.
pub record WasAccepted (limits : Limits) (uploads : List (List ℕ)) (accepted : List Bool) (i : ℕ) (e : LogEntry) : Type 0 where
  pub earlier : ℕ
  pub before : earlier < i
  pub marked : IsMarked accepted earlier
  pub says : SaysEntry limits uploads earlier e

-- What is stored before a position: the entries of the journal at the start, and those of all accepted uploads before.
abbrev pub StoredBefore : Limits → (start : Journal) → (uploads : List (List ℕ)) → (accepted : List Bool) → ℕ → LogEntry → Type 0
StoredBefore limits start uploads accepted i e = IsStored start e ⊎ WasAccepted limits uploads accepted i e

-- No two entries of a set have the same key and differ.
abbrev pub NoneDiffer : (LogEntry → Type 0) → Type 0
NoneDiffer In = (e f : LogEntry) → In e → In f → e.key ≡ f.key → e ≡ f

-- An upload is accepted: it wasn't set aside, it ends without a fault, and its entries agree with each other and with all
-- that is stored before it.
pub record IsAcceptedAt (limits : Limits) (start : Journal) (uploads : List (List ℕ)) (aside accepted : List Bool) (i : ℕ) : Type 0 where
  pub passed : ¬ IsMarked aside i
  pub reading : Reading
  pub says : SaysAt limits uploads i reading
  pub left : ℕ
  pub ended : reading.ending ≡ End left
  pub agrees : NoneDiffer (λ e. StoredBefore limits start uploads accepted i e ⊎ Contains reading.entries e)

-- The one set of accepted positions, if those at these positions were set aside.
pub record AreAccepted (limits : Limits) (start : Journal) (uploads : List (List ℕ)) (aside accepted : List Bool) : Type 0 where
  pub each : length accepted ≡ length uploads
  pub are : (i : ℕ) → IsMarked accepted i ↔ IsAcceptedAt limits start uploads aside accepted i

-- The journal has what is stored before a position, and nothing else.
abbrev pub IsStoredBefore : Limits → (start : Journal) → (uploads : List (List ℕ)) → (accepted : List Bool) → ℕ → Journal → Type 0
IsStoredBefore limits start uploads accepted i journal =
    (e : LogEntry) → IsStored journal e ↔ StoredBefore limits start uploads accepted i e
