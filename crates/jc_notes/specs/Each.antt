-- What is printed and done of items in turn. (own)
use Rattle.std.specs.Prelude.{◌≡◌, ◌⊎◌, ◌++◌, ◌&&◌, ℕ, List, [], ◌∷◌, Bool, true, if◌then◌else◌, Option, None}
use Rattle.std.specs.Io.KnownBytes.{Appends}
use Rattle.std.specs.List.{AllZip}
use Rattle.jc_command_shared.specs.Deeds.{Adds, Deed, LeavesOld}
use Rattle.jc_command_shared.specs.declared.status.Status.{Status}
use Rattle.jc_command_shared.specs.declared.status.Status.TheVariants.{Success, Refused}

-- each was well
abbrev pub all_well : List (Bool × List ℕ) → Bool
all_well [] = true
all_well (one ∷ more) = one.0 && all_well more

abbrev pub texts_of : List (Bool × List ℕ) → List ℕ
texts_of [] = []
texts_of (one ∷ more) = one.1 ++ texts_of more

-- Of each item a text was printed, in turn, that is such a one of it; and whether it is well is said, too. The status says
-- whether each was.
pub record PrintsEach {A : Type 0} (Is : A → Bool → List ℕ → Type 0) (items : List A) (status : Status) (old new : Option (List ℕ)) : Type 0 where
  pub found : List (Bool × List ℕ)
  pub each : AllZip (λ (item : A) (one : Bool × List ℕ). Is item one.0 one.1) items found
  pub printed : Appends old new (texts_of found)
  pub judged : status ≡ (if all_well found then Success else Refused)

-- ---- what is printed and done

-- Some text was printed and some deeds were done that are such. Where nothing is known to be printed, the deeds alone count.
pub record Works (Is : (text : List ℕ) → List Deed → Type 0) (printed printed_now : Option (List ℕ)) (old new : Option (List Deed)) : Type 0 where
  pub text : List ℕ
  pub deeds : List Deed
  pub is : Is text deeds
  pub gained : Appends printed printed_now text
  pub added : Adds old new deeds

abbrev pub texts_in : List (List ℕ × List Deed) → List ℕ
texts_in [] = []
texts_in (one ∷ more) = one.0 ++ texts_in more

abbrev pub deeds_in : List (List ℕ × List Deed) → List Deed
deeds_in [] = []
deeds_in (one ∷ more) = one.1 ++ deeds_in more

-- ... of each item, in turn
pub record WorksEach {A : Type 0} (Is : A → (text : List ℕ) → List Deed → Type 0) (items : List A) (printed printed_now : Option (List ℕ)) (old new : Option (List Deed)) : Type 0 where
  pub works : List (List ℕ × List Deed)
  pub each : AllZip (λ (item : A) (one : List ℕ × List Deed). Is item one.0 one.1) items works
  pub gained : Appends printed printed_now (texts_in works)
  pub added : Adds old new (deeds_in works)

-- ---- what is left undone

-- No file took the place of the one at this path. Or the deeds were done, and printing failed.
abbrev pub MayWork : (Is : (text : List ℕ) → List Deed → Type 0) → (at : List ℕ) → (old new : Option (List Deed)) → Type 0
MayWork Is at old new = LeavesOld at old new ⊎ Works Is None None old new

-- of items that are left, if one is
abbrev pub LeavesNext : {A : Type 0} (at : A → List ℕ) → (left : List A) → (old new : Option (List Deed)) → Type 0
LeavesNext at [] old new = new ≡ old
LeavesNext at (item ∷ more) old new = LeavesOld (at item) old new

-- The deeds were done of the first of these items. No file took the place of the next one's, and of others nothing was done.
pub record GivesUp {A : Type 0} (Is : A → (text : List ℕ) → List Deed → Type 0) (at : A → List ℕ) (items : List A) (old new : Option (List Deed)) : Type 0 where
  pub done : List A
  pub left : List A
  pub parts : items ≡ done ++ left
  pub between : Option (List Deed)
  pub works : WorksEach Is done None None old between
  pub stays : LeavesNext at left between new
