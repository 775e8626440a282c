-- Laws of what a run does to files.
use Rattle.std.proofs.Common.{◌≡◌, ◌⊎◌, ◌++◌, ◌∷◌, ℕ, List, [], Option, None, Some, codes, false, true, option_map, refl, sym, ap, subst, ◌∙◌, append_assoc, append-nil, inl, inr}
use Rattle.std.specs.Prelude.{Err, IfSome, IsOk, Ok, OnErr, OnOk, Result}
use Rattle.std.specs.Io.KnownBytes.{Appends}
use Rattle.jc_command_shared.specs.Deeds.{Adds, AreChanges, ChangesOnly, Deed, IsReplaced, LeavesOld, MayAdd, OpensAndChanges, OpensOnce, Replaces, changes, opens, puts}

-- ---- lists

both_change : (Mine : List ℕ → Type 0) (first then : List Deed) → AreChanges Mine first → AreChanges Mine then → AreChanges Mine (first ++ then)
both_change Mine [] then done more = more
both_change Mine (opens path ∷ first) then done more = absurd done
both_change Mine (changes path ∷ first) then done more = (done.0, both_change Mine first then done.1 more)
both_change Mine (puts from path held ∷ first) then done more = (done.0, (done.1.0, both_change Mine first then done.1.1 more))

change_more : (Mine Other : List ℕ → Type 0) → ((path : List ℕ) → Mine path → Other path) → (deeds : List Deed)
    → AreChanges Mine deeds → AreChanges Other deeds
change_more Mine Other grows [] only = tt
change_more Mine Other grows (opens path ∷ deeds) only = absurd only
change_more Mine Other grows (changes path ∷ deeds) only = (grows path only.0, change_more Mine Other grows deeds only.1)
change_more Mine Other grows (puts from path held ∷ deeds) only =
    (grows from only.0, (grows path only.1.0, change_more Mine Other grows deeds only.1.1))

adds_none : (old : Option (List Deed)) → Adds old old []
adds_none None = refl
adds_none (Some before) = ap Some (sym (append-nil before))

adds_both : (old : Option (List Deed)) (first then : List Deed)
    → option_map (λ before. before ++ then) (option_map (λ before. before ++ first) old) ≡ option_map (λ before. before ++ (first ++ then)) old
adds_both None first then = refl
adds_both (Some before) first then = ap Some (append_assoc before first then)

-- ---- what is done

module _ {Mine : List ℕ → Type 0} where
  pub nothing_changes : (old : Option (List Deed)) → ChangesOnly Mine old old
  nothing_changes old = record { deeds = []; only = tt; added = adds_none old }

  pub changes_one : {old new : Option (List Deed)} (path : List ℕ) → Mine path → Adds old new (changes path ∷ []) → ChangesOnly Mine old new
  changes_one path mine added = record { deeds = changes path ∷ []; only = (mine, tt); added = added }

  -- by a call that failed
  pub may_change_one : {old new : Option (List Deed)} (path : List ℕ) → Mine path → MayAdd old new (changes path ∷ []) → ChangesOnly Mine old new
  may_change_one path mine (inl same) = rw same (nothing_changes _)
  may_change_one path mine (inr added) = changes_one path mine added

  pub changes_name : {old new : Option (List Deed)} (from path : List ℕ) (held : Option (List ℕ)) → Mine from → Mine path
      → Adds old new (puts from path held ∷ []) → ChangesOnly Mine old new
  changes_name from path held mine too added =
      record { deeds = puts from path held ∷ []; only = (mine, (too, tt)); added = added }

  pub changes_then : {old between new : Option (List Deed)} → ChangesOnly Mine old between → ChangesOnly Mine between new → ChangesOnly Mine old new
  changes_then {old} first then =
      record {
        deeds = first.deeds ++ then.deeds;
        only = both_change Mine first.deeds then.deeds first.only then.only;
        added = then.added ∙ ap (option_map (λ before. before ++ then.deeds)) first.added ∙ adds_both old first.deeds then.deeds;
      }

  pub changes_more : {Other : List ℕ → Type 0} {old new : Option (List Deed)} → ((path : List ℕ) → Mine path → Other path)
      → ChangesOnly Mine old new → ChangesOnly Other old new
  changes_more {Other} grows it =
      record { deeds = it.deeds; only = change_more Mine Other grows it.deeds it.only; added = it.added }

  -- an open alone, or none
  pub only_opens : {database : List ℕ} {old new : Option (List Deed)} → OpensOnce database old new → OpensAndChanges database Mine old new
  only_opens {new = new} opened = record { between = new; opened = opened; changed = nothing_changes new }

  pub does_nothing : {database : List ℕ} (old : Option (List Deed)) → OpensAndChanges database Mine old old
  does_nothing old = only_opens (inl refl)

  pub opens_then : {database : List ℕ} {old between new : Option (List Deed)} → OpensOnce database old between → ChangesOnly Mine between new
      → OpensAndChanges database Mine old new
  opens_then {between = between} opened changed = record { between = between; opened = opened; changed = changed }

-- A file is made beside the one at this path, and nothing is changed then but these two.
pub replaces : {old between new : Option (List Deed)} (at name other : List ℕ) → name ≡ at ++ codes ".new" → other ≡ at ++ codes ".new"
    → Adds old between (changes name ∷ []) → ChangesOnly (λ path. (path ≡ at) ⊎ (path ≡ other)) between new
    → ChangesOnly (IsReplaced at) old new
replaces at name other beside too made changed =
    changes_then (changes_one name (inr beside) made) (changes_more (λ path it. known path it) changed)
  where
    known : (path : List ℕ) → (path ≡ at) ⊎ (path ≡ other) → IsReplaced at path
    known path (inl same) = inl same
    known path (inr same) = inr (same ∙ too)

-- ---- a file that is replaced, or stays

-- What was written to the new file, which was empty, is all that the file has which took the other one's place.
replaced : (old between new : Option (List Deed)) (empty written : Option (List ℕ)) (at name other text : List ℕ) → name ≡ at ++ codes ".new" → other ≡ at ++ codes ".new"
    → Adds old between (changes name ∷ []) → IfSome between (λ _. empty ≡ Some []) → Appends empty written text
    → Adds between new (puts other at written ∷ []) → Replaces at text old new
replaced None between new empty written at name other text beside too made is_empty gained put =
    put ∙ ap (option_map (λ now. now ++ puts other at written ∷ [])) made
replaced (Some before) between new empty written at name other text beside too made is_empty gained put =
    put
    ∙ ap (option_map (λ now. now ++ puts other at written ∷ [])) made
    ∙ ap Some (append_assoc before (changes name ∷ []) (puts other at written ∷ []))
    ∙ (λ t. Some (before ++ changes (beside t) ∷ puts (too t) at (is_text t) ∷ []))
  where
    known : empty ≡ Some []
    known = subst (λ (o : Option (List Deed)). IfSome o (λ _. empty ≡ Some [])) made is_empty

    written_is : (w : Option (List ℕ)) → Appends (Some []) w text → w ≡ Some text
    written_is None gains = absurd gains
    written_is (Some bytes) gains = ap Some gains

    is_text : written ≡ Some text
    is_text = written_is written (subst (λ (o : Option (List ℕ)). Appends o written text) known gained)

module _ (old between new : Option (List Deed)) (at name other : List ℕ) (beside : name ≡ at ++ codes ".new") (too : other ≡ at ++ codes ".new")
    (made : Adds old between (changes name ∷ []))
  where
    pub replaces_whole : {T U E F : Type 0} (empty full : Option (List ℕ)) (text : List ℕ) (result : Result T E) (written : Result U F)
        → IfSome between (λ _. empty ≡ Some []) → OnOk written (Appends empty full text) → OnOk result (IsOk written)
        → OnOk result (Adds between new (puts other at full ∷ [])) → OnOk result (Replaces at text old new)
    replaces_whole empty full text (Ok x) (Ok y) is_empty gained whole put =
        replaced old between new empty full at name other text beside too made is_empty gained put
    replaces_whole empty full text (Ok x) (Err e) is_empty gained whole put = let none : false ≡ true = whole in cc
    replaces_whole empty full text (Err e) written is_empty gained whole put = tt

    pub leaves_old : {T E : Type 0} (result : Result T E) → OnErr result (ChangesOnly (λ path. path ≡ other) between new)
        → OnErr result (LeavesOld at old new)
    leaves_old (Ok x) changed = tt
    leaves_old (Err e) changed = changes_then (changes_one name beside made) (changes_more (λ path is. is ∙ too) changed)

-- Then no other file changed.
pub replaced_only : {old new : Option (List Deed)} (at text : List ℕ) → Replaces at text old new → ChangesOnly (IsReplaced at) old new
replaced_only at text added = record { deeds = _; only = (inr refl, (inr refl, (inl refl, tt))); added = added }

pub left_only : {old new : Option (List Deed)} (at : List ℕ) → LeavesOld at old new → ChangesOnly (IsReplaced at) old new
left_only at changed = changes_more (λ path is. inr is) changed
