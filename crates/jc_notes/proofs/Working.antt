-- What is printed and done of items in turn.
use Rattle.std.proofs.Common.{◌≡◌, ◌∙◌, ◌++◌, ◌+◌, ◌<◌, ◌≤◌, ℕ, List, [], ◌∷◌, Option, Some, None, Result, Ok, Err, append-nil, append_assoc, ap, drop, get_or, inl, inr, length, option_map, refl, subst, sym, take, take_all}
use Rattle.std.specs.Prelude.{IfSome, OnErr, OnOk}
use Rattle.std.specs.Io.KnownBytes.{Appends, Keeps}
use Rattle.std.specs.List.{AllZip}
use Rattle.std.proofs.lemmas.List.{drop_more, take-append-drop, take_more}
use Rattle.jc_command_shared.specs.DeedLaws.{nothing_changes}
use Rattle.jc_command_shared.specs.Deeds.{Adds, Deed}
use Rattle.jc_command_shared.specs.OutputLaws.{Appends-kept}
use Rattle.jc_ledger.specs.declared.owner.MachineDigest.{MachineDigest}
use Rattle.jc_ledger_files.specs.Owned.{owner_of}
use Rattle.jc_ledger_files.specs.declared.window_name.WindowName.{WindowName}
use Rattle.jc_ledger_files.specs.declared.window_note.WindowNote.{WindowNote}
use Rattle.jc_sequences.specs.Placed.{path_of}
use Rattle.jc_notes.specs.Changed.{IsKeptFront, replacing}
use Rattle.jc_notes.specs.Each.{GivesUp, LeavesNext, MayWork, Works, WorksEach, deeds_in, texts_in}
use Rattle.jc_notes.specs.Found.{AreRead}
use Rattle.jc_notes.specs.Lines.{AreLines, OfLines}
use Rattle.jc_notes.specs.Printed.{IsOwnerChange}
use Rattle.jc_notes.specs.declared.lines.Front.{Front}
use Rattle.jc_notes.proofs.Printing.{appends_more, nothing}
use Rattle.jc_notes.proofs.Turns.{zip_more}

adds_none : (old : Option (List Deed)) → Adds old old []
adds_none None = refl
adds_none (Some before) = ap Some (sym (append-nil before))

adds_then : (a b c : Option (List Deed)) (first then : List Deed) → Adds a b first → Adds b c then → Adds a c (first ++ then)
adds_then None b c first then one other = other ∙ ap (option_map (λ before. before ++ then)) one
adds_then (Some before) b c first then one other =
    other ∙ ap (option_map (λ gone. gone ++ then)) one ∙ ap Some (append_assoc before first then)

pub on_ok : {T E P Q : Type 0} (result : Result T E) → (P → Q) → OnOk result P → OnOk result Q
on_ok (Ok value) more it = more it
on_ok (Err error) more it = tt

pub on_err : {T E P Q : Type 0} (result : Result T E) → (P → Q) → OnErr result P → OnErr result Q
on_err (Ok value) more it = tt
on_err (Err error) more it = more it

pub err_is : {T E P : Type 0} (result : Result T E) → P → OnErr result P
err_is (Ok value) it = tt
err_is (Err error) it = it

-- ---- one item

module _ {Is : List ℕ → List Deed → Type 0} where
  -- nothing is done
  pub idle : (known : Option (List ℕ)) (old : Option (List Deed)) → Is [] [] → Works Is known known old old
  idle known old is = record { text = []; deeds = []; is = is; gained = nothing known; added = adds_none old }

  pub works_kept : (old mid new : Option (List ℕ)) (first now : Option (List Deed)) → Works Is old mid first now → Keeps mid new → Works Is old new first now
  works_kept old mid new first now it kept =
      record { text = it.text; deeds = it.deeds; is = it.is; gained = Appends-kept old mid new it.text it.gained kept; added = it.added }

  -- of what is printed nothing is known
  pub unseen : {old new : Option (List ℕ)} {first now : Option (List Deed)} → Works Is old new first now → Works Is None None first now
  unseen it = record { text = it.text; deeds = it.deeds; is = it.is; gained = tt; added = it.added }

module _ {Is Other : List ℕ → List Deed → Type 0} (more : (text : List ℕ) (deeds : List Deed) → Is text deeds → Other text deeds) where
  -- what is such is such another one
  pub works_more : {old new : Option (List ℕ)} {first now : Option (List Deed)} → Works Is old new first now → Works Other old new first now
  works_more it = record { text = it.text; deeds = it.deeds; is = more it.text it.deeds it.is; gained = it.gained; added = it.added }

  pub may_more : (at : List ℕ) {first now : Option (List Deed)} → MayWork Is at first now → MayWork Other at first now
  may_more at (inl left) = inl left
  may_more at (inr works) = inr (works_more works)

-- An owner's notes are changed, or stay.
module _ (found : List ℕ → Option (List ℕ)) (folder : List ℕ) (name : WindowName) (Asked : Option MachineDigest → Type 0) (line : List ℕ)
    (put notes : List WindowNote) (read : AreRead (found (path_of folder name)) notes) where
  pub owner_changes : Asked (owner_of notes) → (old new : Option (List ℕ)) (first now : Option (List Deed)) → Adds first now (replacing (path_of folder name) put)
      → Appends old new line → Works (IsOwnerChange found folder name Asked line put) old new first now
  owner_changes was old new first now added gained = record {
    text = line;
    deeds = replacing (path_of folder name) put;
    is = record { notes = notes; read = read; done = inl (was, (refl, refl)) };
    gained = gained;
    added = added;
  }

  pub owner_stays : (Asked (owner_of notes) → ⊥) → (known : Option (List ℕ)) (old : Option (List Deed))
      → Works (IsOwnerChange found folder name Asked line put) known known old old
  owner_stays other known old = idle known old (record { notes = notes; read = read; done = inr (other, (refl, refl)) })

module _ (found : List ℕ → Option (List ℕ)) (folder : List ℕ) (front : Front) (notes : List WindowNote) (read : AreRead (found (path_of folder front.window)) notes) where
  pub front_stays : (old : Option (List Deed)) → length notes ≤ front.count → Works (IsKeptFront found folder front) None None old old
  front_stays old few = idle None old (record { notes = notes; read = read; done = inl (few, refl); silent = refl })

  pub front_kept : {T E : Type 0} (result : Result T E) (first now : Option (List Deed)) → front.count < length notes → (put : List WindowNote) → put ≡ take front.count notes
      → OnOk result (Adds first now (replacing (path_of folder front.window) put)) → OnOk result (Works (IsKeptFront found folder front) None None first now)
  front_kept result first now more put is replaced = on_ok result
      (λ added. record {
        text = [];
        deeds = replacing (path_of folder front.window) put;
        is = record {
          notes = notes;
          read = read;
          done = inr (more, ap (replacing (path_of folder front.window)) is);
          silent = refl;
        };
        gained = tt;
        added = added;
      })
      replaced

-- ---- one more

texts_more : (works : List (List ℕ × List Deed)) (one : List ℕ × List Deed) → texts_in (works ++ one ∷ []) ≡ texts_in works ++ one.0
texts_more [] one = append-nil one.0
texts_more (first ∷ works) one = ap (λ (text : List ℕ). first.0 ++ text) (texts_more works one) ∙ sym (append_assoc first.0 (texts_in works) one.0)

deeds_more : (works : List (List ℕ × List Deed)) (one : List ℕ × List Deed) → deeds_in (works ++ one ∷ []) ≡ deeds_in works ++ one.1
deeds_more [] one = append-nil one.1
deeds_more (first ∷ works) one = ap (λ (deeds : List Deed). first.1 ++ deeds) (deeds_more works one) ∙ sym (append_assoc first.1 (deeds_in works) one.1)

module _ {A : Type 0} (Is : A → List ℕ → List Deed → Type 0) where
  pub none_done : (known : Option (List ℕ)) (old : Option (List Deed)) → WorksEach Is [] known known old old
  none_done known old = record { works = []; each = tt; gained = nothing known; added = adds_none old }

  pub one_done : (items : List A) (i : ℕ) (d : A) (old mid new : Option (List ℕ)) (first between now : Option (List Deed)) → i < length items
      → WorksEach Is (take i items) old mid first between → Works (Is (get_or items i d)) mid new between now
      → WorksEach Is (take (i + 1) items) old new first now
  one_done items i d old mid new first between now within so_far one = record {
    works = so_far.works ++ (one.text, one.deeds) ∷ [];
    each = subst (λ (xs : List A). AllZip (λ (x : A) (y : List ℕ × List Deed). Is x y.0 y.1) xs (so_far.works ++ (one.text, one.deeds) ∷ [])) (sym (take_more items i d within))
        (zip_more (λ (x : A) (y : List ℕ × List Deed). Is x y.0 y.1) (take i items) so_far.works (get_or items i d) (one.text, one.deeds) so_far.each one.is);
    gained = subst (Appends old new) (sym (texts_more so_far.works (one.text, one.deeds)))
        (appends_more old mid new (texts_in so_far.works) one.text so_far.gained one.gained);
    added = subst (Adds first now) (sym (deeds_more so_far.works (one.text, one.deeds)))
        (adds_then first between now (deeds_in so_far.works) one.deeds so_far.added one.added);
  }

  pub each_kept : (items : List A) (old mid new : Option (List ℕ)) (first now : Option (List Deed)) → WorksEach Is items old mid first now → Keeps mid new
      → WorksEach Is items old new first now
  each_kept items old mid new first now it kept =
      record { works = it.works; each = it.each; gained = Appends-kept old mid new (texts_in it.works) it.gained kept; added = it.added }

  pub all_done : (items : List A) (i : ℕ) (old new : Option (List ℕ)) (first now : Option (List Deed)) → length items ≤ i
      → WorksEach Is (take i items) old new first now → WorksEach Is items old new first now
  all_done items i old new first now none so_far =
      subst (λ (xs : List A). WorksEach Is xs old new first now) (take_all i items none) so_far

module _ {A : Type 0} (Is : A → List ℕ → List Deed → Type 0) (at : A → List ℕ) where
  none_left : (left : List A) (old : Option (List Deed)) → LeavesNext at left old old
  none_left [] old = refl
  none_left (item ∷ more) old = nothing_changes old

  -- all is done, but for what is printed
  pub gives_up_last : {items : List A} {old new : Option (List ℕ)} {first now : Option (List Deed)} → WorksEach Is items old new first now → GivesUp Is at items first now
  gives_up_last {items} {now = now} it = record {
    done = items;
    left = [];
    parts = sym (append-nil items);
    between = now;
    works = record { works = it.works; each = it.each; gained = tt; added = it.added };
    stays = refl;
  }

  -- one is done in part, or all but printed
  pub gives_up : (items : List A) (i : ℕ) (d : A) (old mid : Option (List ℕ)) (first between now : Option (List Deed)) → i < length items
      → WorksEach Is (take i items) old mid first between → MayWork (Is (get_or items i d)) (at (get_or items i d)) between now → GivesUp Is at items first now
  gives_up items i d old mid first between now within so_far (inl left) = record {
    done = take i items;
    left = drop i items;
    parts = sym (take-append-drop i items);
    between = between;
    works = record { works = so_far.works; each = so_far.each; gained = tt; added = so_far.added };
    stays = subst (λ (xs : List A). LeavesNext at xs between now) (sym (drop_more items i d within)) left;
  }
  gives_up items i d old mid first between now within so_far (inr works) = record {
    done = take (i + 1) items;
    left = drop (i + 1) items;
    parts = sym (take-append-drop (i + 1) items);
    between = now;
    works = one_done Is items i d None None None first between now within
        (record { works = so_far.works; each = so_far.each; gained = tt; added = so_far.added }) works;
    stays = none_left (drop (i + 1) items) now;
  }

-- ---- lines that were read

pub of_lines : {A : Type 0} (read : List ℕ → Option A) (Does : List A → Type 0) (given : Option (List ℕ)) (bytes : List ℕ) (items : List A)
    → IfSome given (λ held. bytes ≡ held) → AreLines read items bytes → Does items → IfSome given (OfLines read Does)
of_lines read Does None bytes items same lines does = tt
of_lines read Does (Some text) bytes items same lines does =
    record { items = items; lines = subst (λ (t : List ℕ). AreLines read items t) same lines; does = does }
