-- What a file says, and the last note of a number.
use Rattle.std.proofs.Common.{◌≡◌, ◌∙◌, ◌+◌, ◌<◌, ℕ, Bool, true, false, if◌then◌else◌, List, [], ◌∷◌, ◌++◌, Option, Some, None, length, take, get_or, refl, sym, ap, subst}
use Rattle.std.specs.BTreeMap.{is_at}
use Rattle.std.specs.Cmp.{eq_by_cmp_equiv}
use Rattle.std.specs.Ordering.{nat_cmp}
use Rattle.std.proofs.lemmas.Cmp.{nat_cmp_total}
use Rattle.std.proofs.lemmas.List.{take_more}
use Rattle.std.proofs.lemmas.Map.Lookups.{exact_unsigned}
use Rattle.std.proofs.lemmas.Map.Views.{tells_apart}
use Rattle.jc_ledger.specs.declared.digest.EntryDigest.{EntryDigest}
use Rattle.jc_ledger_files.specs.Noted.{noted, noted_from, noted_over}
use Rattle.jc_ledger_files.specs.declared.window_note.WindowNote.{WindowNote}

-- ---- what a file says

-- ---- the last note

from_both : (before : Option EntryDigest) (a b : List WindowNote) (number : ℕ)
    → noted_from before (a ++ b) number ≡ noted_from (noted_from before a number) b number
from_both before [] b number = refl
from_both before (n ∷ ns) b number = from_both (noted_over before n number) ns b number

-- one note more
pub noted_more : (notes : List WindowNote) (i : ℕ) (d : WindowNote) (number : ℕ) (before now : Option EntryDigest) → i < length notes
    → before ≡ noted (take i notes) number → now ≡ noted_over before (get_or notes i d) number → now ≡ noted (take (i + 1) notes) number
noted_more notes i d number before now within so_far one =
    one
    ∙ ap (λ (o : Option EntryDigest). noted_over o (get_or notes i d) number) so_far
    ∙ sym (from_both None (take i notes) (get_or notes i d ∷ []) number)
    ∙ sym (ap (λ (ns : List WindowNote). noted ns number) (take_more notes i d within))

-- a note of the number, and one of another
pub noted_here : (before : Option EntryDigest) (note : WindowNote) (number : ℕ) → note.number ≡ number → noted_over before note number ≡ Some note.digest
noted_here before note number same =
    ap (λ (b : Bool). if b then Some note.digest else before)
    (subst (λ (n : ℕ). is_at (nat_cmp note.number) n ≡ true) same ((eq_by_cmp_equiv nat_cmp_total).refl note.number))

pub noted_elsewhere : (before : Option EntryDigest) (note : WindowNote) (number : ℕ) → (note.number ≡ number → ⊥) → noted_over before note number ≡ before
noted_elsewhere before note number other = go (is_at (nat_cmp note.number) number) refl
  where
    go : (b : Bool) → is_at (nat_cmp note.number) number ≡ b → (if b then Some note.digest else before) ≡ before
    go true same = absurd (other (tells_apart exact_unsigned note.number number same))
    go false same = refl
