-- The export of a journal stands behind what was answered over it.
use Rattle.std.proofs.Common.{◌≡◌, ◌∷◌, ◌++◌, ◌∙◌, [], ℕ, List, Option, Some, None, ap, append_assoc, inl, inr, option_map, refl, subst, sym}
use Rattle.std.specs.Prelude.{Err, Ok, OnErr, OnOk, Result}
use Rattle.sqlite.specs.Store.{Ghosts}
use Rattle.sqlite.specs.Held.{Held}
use Rattle.jc_base.specs.Journal.{Journal}
use Rattle.jc_command_shared.specs.Deeds.{Adds, ChangesOnly, Deed, OpensOnce, beside, changes, puts}
use Rattle.jc_command_shared.specs.DeedLaws.{leaves_old, nothing_changes}
use Rattle.jc_keeper.specs.Listing.{export_text}
use Rattle.jc_store.specs.Meaning.{AreMade, IsSound, KeepsJournal, Meaning, journal_of}
use Rattle.jc_collector.specs.Exported.{LeavesOldIf, MayReplace, OpensAndExports, ReplacesIf}
use Rattle.jc_collector.specs.Open.{Begun, StandsOver}

-- nothing was done
pub none_replaced : {T E : Type 0} (result : Result T E) (at : Option (List ℕ)) (old : Option (List Deed)) → OnErr result (LeavesOldIf at old old)
none_replaced (Ok x) at old = tt
none_replaced (Err e) None old = refl
none_replaced (Err e) (Some at) old = nothing_changes old

-- A file is made beside the one at this path, and gets its path, or that one stays.
pub may_replace : {T E : Type 0} (old between new : Option (List Deed)) (at name other : List ℕ) → name ≡ beside at → other ≡ beside at
    → Adds old between (changes name ∷ []) → (result : Result T E) (held : Option (List ℕ)) → OnOk result (Adds between new (puts other at held ∷ []))
    → OnErr result (ChangesOnly (λ path. path ≡ other) between new) → MayReplace at old new
may_replace old between new at name other first then made (Ok x) held placed stays = inr (held, adds_then old between new name other first then made placed)
  where
    adds_then : (old between new : Option (List Deed)) (name other : List ℕ) → name ≡ beside at → other ≡ beside at → Adds old between (changes name ∷ [])
        → Adds between new (puts other at held ∷ []) → Adds old new (changes (beside at) ∷ puts (beside at) at held ∷ [])
    adds_then None between new name other first then made placed = placed ∙ ap (option_map (λ now. now ++ puts other at held ∷ [])) made
    adds_then (Some before) between new name other first then made placed =
        placed
        ∙ ap (option_map (λ now. now ++ puts other at held ∷ [])) made
        ∙ ap Some (append_assoc before (changes name ∷ []) (puts other at held ∷ []))
        ∙ (λ t. Some (before ++ changes (first t) ∷ puts (then t) at held ∷ []))
may_replace {T = T} old between new at name other first then made (Err e) held placed stays =
    inl (leaves_old old between new at name other first then made {T = T} (Err e) stays)

-- the same journal, after a call that keeps it
pub same_exported : (m : Meaning) → {S : Type 0} {g : Ghosts S} (then last : Held S) → KeepsJournal m g then last → IsSound g then → AreMade m g then
    → IsSound g last → (at : Option (List ℕ)) (old new : Option (List Deed)) → ReplacesIf at (export_text (journal_of m g then)) old new
    → ReplacesIf at (export_text (journal_of m g last)) old new
same_exported m then last keeps sound_then made sound_last at old new replaced =
    subst (λ (journal : Journal). ReplacesIf at (export_text journal) old new) (sym (keeps.same sound_then made sound_last)) replaced

pub stands_exported : (m : Meaning) → {S : Type 0} {g : Ghosts S} (first then last : Held S) → (IsSound g then → IsSound g first)
    → (AreMade m g first → AreMade m g then) → (IsSound g last → IsSound g then) → KeepsJournal m g then last
    → (at : Option (List ℕ)) (old new : Option (List Deed))
    → (IsSound g last → AreMade m g then → ReplacesIf at (export_text (journal_of m g then)) old new)
    → StandsOver m g last (Begun m g first) (λ before after. ReplacesIf at (export_text after) old new)
stands_exported m first then last back stays_made back' keeps at old new exported sound_last before begin =
    let sound_then = back' sound_last in
    let made = stays_made (begin (back sound_then).clean).1.made in
    (keeps.made made, same_exported m then last keeps sound_then made sound_last at old new (exported sound_last made))

pub opens_exports : (database : List ℕ) (at : Option (List ℕ)) (old between new : Option (List Deed)) (journal : Journal)
    → OpensOnce database old between → ReplacesIf at (export_text journal) between new → OpensAndExports database at old new journal
opens_exports database at old between new journal opened replaced = record { between = between; opened = opened; replaced = replaced }
