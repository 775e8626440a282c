-- Notes of owners do no harm to what is known of a journal. (own)
use Rattle.std.specs.Prelude.{◌≡◌, ◌^◌, ◌<◌, ℕ, Bool, true, false, if◌then◌else◌, List, nat_eq, nat_lt}
use Rattle.std.proofs.Common.{ap, ◌∙◌, refl, arith}
use Rattle.std.proofs.Math.Nat.{div-lt_iff_lt-mul}
use Rattle.std.proofs.lemmas.Bool.{ltb-false, ltb-true, ne_eqb}
use Rattle.jc_base.specs.declared.id.Id128.{Id128}
use Rattle.jc_base.specs.declared.id.Key.{Key}
use Rattle.jc_base.specs.Journal.{Journal}
use Rattle.jc_base.specs.LogEntry.{IsKey}
use Rattle.jc_ledger.specs.Kept.{IsKnownBy}
use Rattle.jc_ledger_files.specs.declared.window_name.WindowName.{WindowName}
use Rattle.jc_ledger_files.specs.declared.window_note.WindowNote.{WindowNote}
use Rattle.jc_ledger_files.specs.Noted.{noted}
use Rattle.jc_ledger_files.specs.NotesOf.{notes_of}
use Rattle.jc_ledger_files.specs.Owned.{owner_in, owner_of}
use Rattle.jc_ledger_files.specs.Windows.{known_in, window_of}

-- these notes of entries, and those of owners in the windows of owners
abbrev pub with_owners : (WindowName → List WindowNote) → (Id128 → List WindowNote) → WindowName → List WindowNote
with_owners notes owners w = if nat_eq w.window (2 ^ 51) then owners w.sequence else notes w

-- Each entry's window is before that of owners.
pub window_before : (k : Key) → IsKey k → (window_of k).window < 2 ^ 51
window_before k key = (div-lt_iff_lt-mul {k = 4096} {x = k.seqnum} {y = 2 ^ 51} (omega arith)).1 (omega (arith, key.small))

pub not_of_owners : (k : Key) → IsKey k → nat_eq (window_of k).window (2 ^ 51) ≡ false
not_of_owners k key = ne_eqb (window_of k).window (2 ^ 51) (λ is. omega (arith, is, window_before k key))

-- Whoever owns sequences, the notes that tell what a journal has tell it still.
pub owners_are_no_harm : (notes : WindowName → List WindowNote) (owners : Id128 → List WindowNote) (journal : Journal)
    → IsKnownBy (known_in notes) journal → IsKnownBy (known_in (with_owners notes owners)) journal
owners_are_no_harm notes owners journal known k key =
    ap (λ (of_owner : Bool). noted (if of_owner then owners k.seqnum_id else notes (window_of k)) k.seqnum) (not_of_owners k key) ∙ known k key

-- ... and they tell whom each sequence belongs to.
pub owners_are_told : (notes : WindowName → List WindowNote) (owners : Id128 → List WindowNote) (s : Id128)
    → owner_in (with_owners notes owners) s ≡ owner_of (owners s)
owners_are_told notes owners s = refl

-- these files of entries' windows, and what else was seen of the others
abbrev pub files_of : (files seen : WindowName → List ℕ) → WindowName → List ℕ
files_of files seen w = if nat_lt w.window (2 ^ 51) then files w else seen w

pub files_leave : (leaves : WindowName → List ℕ → Type 0) (files seen : WindowName → List ℕ) → ((w : WindowName) → leaves w (seen w))
    → ((w : WindowName) → w.window < 2 ^ 51 → leaves w (files w)) → (w : WindowName) → leaves w (files_of files seen w)
files_leave leaves files seen stay may w = by_test (nat_lt w.window (2 ^ 51)) refl
  where
    by_test : (b : Bool) → nat_lt w.window (2 ^ 51) ≡ b → leaves w (if b then files w else seen w)
    by_test true is = may w (ltb-true w.window (2 ^ 51) is)
    by_test false is = stay w

pub files_alike : (files seen : WindowName → List ℕ) (k : Key) → IsKey k
    → known_in (λ w. notes_of (files w)) k ≡ known_in (λ w. notes_of (files_of files seen w)) k
files_alike files seen k key = by_test (nat_lt (window_of k).window (2 ^ 51)) refl
  where
    by_test : (b : Bool) → nat_lt (window_of k).window (2 ^ 51) ≡ b
        → noted (notes_of (files (window_of k))) k.seqnum ≡ noted (notes_of (if b then files (window_of k) else seen (window_of k))) k.seqnum
    by_test true is = refl
    by_test false is = absurd (omega (arith, ltb-false (window_of k).window (2 ^ 51) is, window_before k key))
