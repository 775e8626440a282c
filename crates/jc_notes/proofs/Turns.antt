-- What is printed of windows in turn.
use Rattle.std.proofs.Common.{◌≡◌, ◌∙◌, ◌++◌, ◌&&◌, ◌+◌, ◌<◌, ◌≤◌, ℕ, List, [], ◌∷◌, Bool, true, false, if◌then◌else◌, Option, append-nil, append_assoc, ap, get_or, length, refl, subst, sym, take, take_all}
use Rattle.std.specs.Io.KnownBytes.{Appends, Keeps}
use Rattle.std.specs.List.{AllZip}
use Rattle.std.proofs.lemmas.List.{take_more}
use Rattle.jc_command_shared.specs.OutputLaws.{Appends-kept}
use Rattle.jc_command_shared.specs.declared.status.Status.{Status}
use Rattle.jc_command_shared.specs.declared.status.Status.TheVariants.{Success, Refused}
use Rattle.jc_notes.specs.Each.{PrintsEach, all_well, texts_of}
use Rattle.jc_notes.specs.Printed.{Prints}
use Rattle.jc_notes.proofs.Printing.{appends_more, nothing}

-- ---- one more

all_well_more : (found : List (Bool × List ℕ)) (one : Bool × List ℕ) → all_well (found ++ one ∷ []) ≡ (all_well found && one.0)
all_well_more [] one = last one.0
  where
    last : (b : Bool) → (b && true) ≡ (true && b)
    last true = refl
    last false = refl
all_well_more (first ∷ found) one = ap (λ (b : Bool). first.0 && b) (all_well_more found one) ∙ three first.0 (all_well found) one.0
  where
    three : (a b c : Bool) → (a && (b && c)) ≡ ((a && b) && c)
    three true b c = refl
    three false b c = refl

texts_more : (found : List (Bool × List ℕ)) (one : Bool × List ℕ) → texts_of (found ++ one ∷ []) ≡ texts_of found ++ one.1
texts_more [] one = append-nil one.1
texts_more (first ∷ found) one =
    ap (λ (text : List ℕ). first.1 ++ text) (texts_more found one) ∙ sym (append_assoc first.1 (texts_of found) one.1)

judge : (a b : Bool) → (if b then (if a then Success else Refused) else Refused) ≡ (if a && b then Success else Refused)
judge true true = refl
judge true false = refl
judge false true = refl
judge false false = refl

pub zip_more : {A B : Type 0} (Are : A → B → Type 0) (items : List A) (found : List B) (item : A) (one : B) → AllZip Are items found → Are item one
    → AllZip Are (items ++ item ∷ []) (found ++ one ∷ [])
zip_more Are [] [] item one each is = (is, tt)
zip_more Are [] (y ∷ ys) item one each is = absurd each
zip_more Are (x ∷ xs) [] item one each is = absurd each
zip_more Are (x ∷ xs) (y ∷ ys) item one each is = (each.0, zip_more Are xs ys item one each.1 is)

module _ {A : Type 0} (Is : A → Bool → List ℕ → Type 0) where
  pub none_printed : (known : Option (List ℕ)) → PrintsEach Is [] Success known known
  none_printed known = record { found = []; each = tt; printed = nothing known; judged = refl }

  pub one_printed : (items : List A) (i : ℕ) (d : A) (status after : Status) (is_well : Bool) (old mid new : Option (List ℕ)) → i < length items
      → PrintsEach Is (take i items) status old mid → Prints (Is (get_or items i d) is_well) mid new
      → after ≡ (if is_well then status else Refused) → PrintsEach Is (take (i + 1) items) after old new
  one_printed items i d status after is_well old mid new within so_far one judged = record {
    found = so_far.found ++ (is_well, one.text) ∷ [];
    each = subst (λ (xs : List A). AllZip (λ (x : A) (y : Bool × List ℕ). Is x y.0 y.1) xs (so_far.found ++ (is_well, one.text) ∷ [])) (sym (take_more items i d within))
        (zip_more (λ (x : A) (y : Bool × List ℕ). Is x y.0 y.1) (take i items) so_far.found (get_or items i d) (is_well, one.text) so_far.each one.is);
    printed = subst (Appends old new) (sym (texts_more so_far.found (is_well, one.text)))
        (appends_more old mid new (texts_of so_far.found) one.text so_far.printed one.printed);
    judged = judged
        ∙ ap (λ (s : Status). if is_well then s else Refused) so_far.judged
        ∙ judge (all_well so_far.found) is_well
        ∙ ap (λ (b : Bool). if b then Success else Refused) (sym (all_well_more so_far.found (is_well, one.text)));
  }

  pub all_printed : (items : List A) (i : ℕ) (status : Status) (old mid new : Option (List ℕ)) → length items ≤ i
      → PrintsEach Is (take i items) status old mid → Keeps mid new → PrintsEach Is items status old new
  all_printed items i status old mid new none so_far kept = record {
    found = so_far.found;
    each = subst (λ (xs : List A). AllZip (λ (x : A) (y : Bool × List ℕ). Is x y.0 y.1) xs so_far.found) (take_all i items none) so_far.each;
    printed = Appends-kept old mid new (texts_of so_far.found) so_far.printed kept;
    judged = so_far.judged;
  }
