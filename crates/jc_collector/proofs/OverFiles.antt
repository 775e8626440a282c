-- From the files that a run begins with to those that it ends with.
use Rattle.std.proofs.Common.{◌≡◌, ℕ, List, [], ◌∷◌, ◌++◌, Option, Some, None, inl, inr, refl, sym, subst, subst₂, ◌∙◌}
use Rattle.std.specs.Prelude.{MatchOption}
use Rattle.std.specs.Io.KnownBytes.{Appends, prepend_known}
use Rattle.sqlite.specs.Store.{Ghosts}
use Rattle.sqlite.specs.Recovery.{Image}
use Rattle.sqlite.specs.State.{HasCleanDisk}
use Rattle.sqlite.specs.Held.{Held, state}
use Rattle.jc_base.specs.Journal.{Journal}
use Rattle.jc_store.specs.Meaning.{Meaning, AreMade, IsSound, KeepsJournal, MovesJournal, journal_of}
use Rattle.jc_store.specs.Statements.{IsBlank}
use Rattle.jc_command_args.specs.declared.request.Tables.{Tables}
use Rattle.jc_database.specs.Files.{BeginsWith, InFiles, IsFound, Keeps, KeepsAlways}
use Rattle.jc_command_shared.specs.declared.status.Status.{Status}
use Rattle.jc_collector.specs.declared.health.Health.{Health}
use Rattle.jc_collector.specs.Open.{Begun, EndsOver, HasKind, StandsIn, StandsOver}
use Rattle.jc_collector.specs.Kinds.{LeadsIn, OpenedOver, conn_of, journal_in, kind_of, meaning_of}
use Rattle.jc_command_shared.specs.Found.{found_text}
use Rattle.jc_collector.specs.Checked.{Counts, PrintsHealth, count_line, health_found}
use Rattle.jc_collector_answers.specs.Collected.{just}
use Rattle.jc_collector.specs.OverFiles.{IsListed, Prints, StoresFromList, StoresNamed, StoresPrinted}
use Rattle.jc_database.specs.FilesLaws.{keeps_found}
use Rattle.jc_collector.proofs.Found.{leads_kind}

-- ---- how a run begins

module _ {S : Type 0} {g : Ghosts S} (image : Image) (opened kept : Held S)
    (found : HasCleanDisk (state g opened) → IsFound g image opened) (back : IsSound g kept → IsSound g opened)
  where
    -- tables that were there
    pub adopted : (m : Meaning) → (¬ IsBlank (state g opened).now) → KeepsJournal m g opened kept
        → IsSound g kept → (before : Journal) → BeginsWith m image before → Keeps m g kept before
    adopted m tables keeps sound before (inl holds) =
        let was = back sound in
        let it = keeps_found m image opened (found was.clean) before holds in
        record { made = keeps.made it.made; is = keeps.same was it.made sound ∙ it.is }
    adopted m tables keeps sound before (inr nothing) = absurd (tables ((found (back sound).clean).none nothing.0))

-- ---- how it ends

module _ {S C L : Type 0} {g : Ghosts S} {o : InFiles S C L} (made : Tables) (image : Image) (opened : OpenedOver S) (files : C)
    (sound : o.clean files → IsSound g (conn_of opened))
    (always : o.clean files → AreMade (meaning_of (kind_of opened)) g (conn_of opened)
    → KeepsAlways (meaning_of (kind_of opened)) o files (journal_in g opened))
    (kind : HasKind g opened made image)
  where
    pub leads_on : (Step : Journal → Journal → Type 0) → StandsIn g opened made image Step → LeadsIn made image o files Step
    leads_on Step stands = leads_kind made image opened kind files sound Step
        (λ clean before begin. let it = stands (sound clean) before begin in record { found = journal_in g opened; is = it.1; keeps = always clean it.0 })

-- ---- how it goes on

module _ {S : Type 0} {g : Ghosts S} (m : Meaning) (first then last : Held S)
    (back : IsSound g then → IsSound g first) (made : AreMade m g first → AreMade m g then)
    (Step : Journal → Journal → Type 0)
    (step : IsSound g then → AreMade m g first → Step (journal_of m g first) (journal_of m g then))
    (back' : IsSound g last → IsSound g then) (keeps : KeepsJournal m g then last)
  where
    pub stands_over : StandsOver m g last (Begun m g first) Step
    stands_over sound_last before begin =
        let sound_then = back' sound_last in
        let it = (begin (back sound_then).clean).1 in
        let made_then = made it.made in
        (keeps.made made_then, subst₂ Step it.is (sym (keeps.same sound_then made_then sound_last)) (step sound_then it.made))

    pub ends_over : {C L : Type 0} {o : InFiles S C L} (files : C) → (o.clean files → IsSound g last)
        → (o.clean files → AreMade m g last → KeepsAlways m o files (journal_of m g last))
        → EndsOver m g o first files Step
    ends_over files sound always clean before begin =
        let it = stands_over (sound clean) before begin in
        record { found = journal_of m g last; is = it.1; keeps = always clean it.0 }

-- tables that became those of another meaning
pub went_over : (m n : Meaning) → {S : Type 0} {g : Ghosts S} (first moved : Held S)
    → (IsSound g moved → IsSound g first) → MovesJournal m n g first moved
    → (before : Journal) → IsSound g moved → Keeps m g first before → Keeps n g moved before
went_over m n first moved back moves before sound it = record { made = moves.made it.made; is = moves.same (back sound) it.made sound ∙ it.is }

-- what was counted is printed
pub prints_counted : (health : Health) (status : Status) (old new : Option (List ℕ)) → PrintsHealth health status old new
    → (before after : Journal) → Counts health before after → Prints count_line old new before after
prints_counted health status old new prints before after counts = record {
  printed = subst (λ (h : Health). Appends old new (found_text (health_found h) ++ 10 ∷ [])) counts.counted prints.printed;
  stays = counts.stays;
}

-- files that are given back, or none
pub match_each : {F : Type 0} (files : Option F) (Without Lacking : Type 0) (With Given : F → Type 0) → MatchOption files Without With
    → (Without → Lacking) → ((f : F) → With f → Given f) → MatchOption files Lacking Given
match_each None Without Lacking With Given is none some = none is
match_each (Some f) Without Lacking With Given is none some = some f is

-- a step that says less
pub leads_weaker : {S C L : Type 0} {o : InFiles S C L} (made : Tables) (image : Image) (files : C) (Step Other : Journal → Journal → Type 0)
    → ((before after : Journal) → Step before after → Other before after) → LeadsIn made image o files Step → LeadsIn made image o files Other
leads_weaker made image files Step Other each leads clean kind before begin =
    let it = leads clean kind before begin in record { found = it.found; is = each before it.found it.is; keeps = it.keeps }

-- what is said of the lines of a text, by the name of the list that has it
pub listed_named : (told : List ℕ → Option (List ℕ)) (list : List ℕ) (given text : Option (List ℕ)) (status : Status) (old new : Option (List ℕ))
    → IsListed told list given text → (before after : Journal) → StoresNamed told text status old new before after
    → StoresFromList told list given status old new before after
listed_named told list given text status old new listed before after stored = record { text = text; listed = listed; stored = stored }

-- ---- one number for another, one text for another

pub other_count : (uploads named : List (Option (List ℕ))) → uploads ≡ named → (count other : ℕ) → count ≡ other → (status : Status) (old new : Option (List ℕ))
    (before after : Journal) → StoresPrinted (just uploads) count status old new before after → StoresPrinted (just named) other status old new before after
other_count uploads named are count other same status old new before after it =
    subst (λ (us : List (Option (List ℕ))). StoresPrinted (just us) other status old new before after) are
    (subst (λ (n : ℕ). StoresPrinted (just uploads) n status old new before after) same it)

pub other_text : (told : List ℕ → Option (List ℕ)) (text other : Option (List ℕ)) → text ≡ other → (status : Status) (old new : Option (List ℕ))
    (before after : Journal) → StoresNamed told text status old new before after → StoresNamed told other status old new before after
other_text told text other same status old new before after it =
    subst (λ (t : Option (List ℕ)). StoresNamed told t status old new before after) same it

pub prepend_nothing : (known : Option (List ℕ)) → prepend_known [] known ≡ known
prepend_nothing None = refl
prepend_nothing (Some bytes) = refl
