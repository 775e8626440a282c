-- Which tables a database is opened with, and what they keep.
use Rattle.std.proofs.Common.{◌≡◌, ◌↔◌, length, inl, inr, refl, sym, ap, subst, ◌∙◌, arith}
use Rattle.std.specs.FinMap.{empty}
use Rattle.sqlite.specs.Store.{Ghosts}
use Rattle.sqlite.specs.Recovery.{Image}
use Rattle.sqlite.specs.Schema.{Schema}
use Rattle.sqlite_tied.specs.Compute.{everything}
use Rattle.sqlite.specs.State.{HasCleanDisk}
use Rattle.sqlite.specs.Held.{Held, state}
use Rattle.sqlite.specs.Effect.{Database}
use Rattle.jc_base.specs.Journal.{Journal}
use Rattle.jc_command_args.specs.declared.request.Tables.{Tables}
use Rattle.jc_command_args.specs.declared.request.Tables.TheVariants.{ByKey, ByNumber}
use Rattle.jc_store.specs.Meaning.{AreMade, IsSound, KeepsJournal, journal_of}
use Rattle.jc_store.specs.Schema.{no_schema}
use Rattle.jc_store.specs.Statements.{IsBlank}
use Rattle.jc_schema_two.specs.Schema.{Shape, fresh, migrated, schema_two}
use Rattle.jc_store.specs.SchemaOne.{schema_one}
use Rattle.jc_database.specs.Files.{AreLawful, EndsWith, HoldsJournal, InFiles, IsFound, Keeps}
use Rattle.jc_database.specs.FilesLaws.{database_found, keeps_found}
use Rattle.jc_collector.specs.Open.{Begun, HasKind, IsFoundIn, IsOne}
use Rattle.jc_collector.specs.KindLaws.{at_kind}
use Rattle.jc_collector.specs.Kinds.{AreAlone, BeginsIn, HasFields, IsAdoptedFrom, IsMadeEmpty, IsMadeIn, IsShown, LeadsIn, OpenedOver, conn_of, kind_of, meaning_of}

-- ---- the tables of each kind

some_by_key : (shape : Shape) → schema_two shape ≡ no_schema → ⊥
some_by_key fresh none = let few = ap (λ (s : Schema). length s.tables) none in omega (arith, few)
some_by_key migrated none = let few = ap (λ (s : Schema). length s.tables) none in omega (arith, few)

some_by_text : schema_one ≡ no_schema → ⊥
some_by_text none = let few = ap (λ (s : Schema). length s.tables) none in omega (arith, few)

pub some_tables : (kind : Tables) (db : Database) → (meaning_of kind).is_journal db → db.schema ≡ no_schema → ⊥
some_tables ByKey db journal none = some_by_key journal.spells.shape (sym journal.spells.schema ∙ none)
some_tables ByNumber db journal none = some_by_text (sym journal.schema ∙ none)

pub fields_by_key : (shape : Shape) → HasFields (schema_two shape)
unfolding everything
fields_by_key fresh = inl refl
fields_by_key migrated = inl refl

pub no_fields : HasFields schema_one → ⊥
unfolding everything
no_fields (inl has) = cc
no_fields (inr none) = none refl

-- A database with a journal has tables of the kind that they tell.
pub which_kind : (mine : Tables) (now : Database) → (mine ≡ ByKey) ↔ HasFields now.schema
    → (kind : Tables) (db : Database) → (meaning_of kind).is_journal db → db ≡ now → kind ≡ mine
which_kind ByKey now tells ByKey db journal is = refl
which_kind ByKey now tells ByNumber db journal is =
    absurd (no_fields (subst HasFields (sym (ap (λ (d : Database). d.schema) is) ∙ journal.schema) (tells.0 refl)))
which_kind ByNumber now tells ByKey db journal is =
    sym (tells.1 (subst HasFields (sym journal.spells.schema ∙ ap (λ (d : Database). d.schema) is) (fields_by_key journal.spells.shape)))
which_kind ByNumber now tells ByNumber db journal is = refl

pub lawful : (kind : Tables) → AreLawful (meaning_of kind)
lawful ByKey db journal = journal.spells.sound
lawful ByNumber db journal = journal.sound

-- ---- how a run begins

module _ {S : Type 0} {g : Ghosts S} (image : Image) (opened kept : Held S)
    (found : HasCleanDisk (state g opened) → IsFound g image opened) (back : IsSound g kept → IsSound g opened)
    (sound : HasCleanDisk (state g kept) → IsSound g kept)
  where
    -- tables that were made anew
    pub made_anew : (made : Tables) → IsBlank (state g opened).now → AreMade (meaning_of made) g kept
        → (IsSound g kept → journal_of (meaning_of made) g kept ≡ empty) → IsFoundIn g made made image kept
    made_anew made blank are none clean = let now = sound clean in (now, begun now)
      where
        begun : IsSound g kept → (kind : Tables) (before : Journal) → BeginsIn made kind image before
            → (kind ≡ made) × Keeps (meaning_of made) g kept before
        begun now kind before (inl holds) =
            let is = database_found (meaning_of kind) image opened (found (back now).clean) before holds in
            absurd (some_tables kind holds.database holds.is_journal (ap (λ (d : Database). d.schema) (sym is) ∙ blank))
        begun now kind before (inr nothing) = (nothing.1, record { made = are; is = none now ∙ sym nothing.2 })

    -- tables that were there
    pub adopted_in : (mine : Tables) → (mine ≡ ByKey) ↔ HasFields (state g opened).now.schema → (¬ IsBlank (state g opened).now)
        → KeepsJournal (meaning_of mine) g opened kept → (made : Tables) → IsFoundIn g made mine image kept
    adopted_in mine tells tables keeps made clean = let now = sound clean in (now, begun now)
      where
        begun : IsSound g kept → (kind : Tables) (before : Journal) → BeginsIn made kind image before
            → (kind ≡ mine) × Keeps (meaning_of mine) g kept before
        begun now kind before (inl holds) =
            let was = back now in
            let is = database_found (meaning_of kind) image opened (found was.clean) before holds in
            let same = which_kind mine (state g opened).now tells kind holds.database holds.is_journal (sym is) in
            let it = keeps_found (meaning_of mine) image opened (found was.clean) before (subst (λ (k : Tables). HoldsJournal (meaning_of k) image before) same holds) in
            (same, record { made = keeps.made it.made; is = keeps.same was it.made now ∙ it.is })
        begun now kind before (inr nothing) = absurd (tables ((found (back now).clean).none nothing.0))

module _ {S : Type 0} {g : Ghosts S} (image : Image) (first : Held S) (found : HasCleanDisk (state g first) → IsFound g image first)
    (opened : OpenedOver S)
  where
    pub found_made : (made : Tables) → IsBlank (state g first).now → IsMadeIn g first made opened → IsFoundIn g made (kind_of opened) image (conn_of opened)
    found_made made blank it =
        subst (λ (m : Tables). IsFoundIn g m (kind_of opened) image (conn_of opened)) it.kind
        (made_anew image first (conn_of opened) found it.was_sound it.sound (kind_of opened) blank it.made it.empty)

    pub found_adopted : (¬ IsBlank (state g first).now) → IsAdoptedFrom g first opened → (made : Tables) → IsFoundIn g made (kind_of opened) image (conn_of opened)
    found_adopted tables it = adopted_in image first (conn_of opened) found it.was_sound it.sound (kind_of opened) it.kind tables it.keeps

-- ---- tables that are one

module _ {S : Type 0} {g : Ghosts S} (image : Image) (first : Held S) (found : HasCleanDisk (state g first) → IsFound g image first)
    (opened : OpenedOver S)
  where
    pub one_adopted : IsAdoptedFrom g first opened → IsOne g (kind_of opened) (conn_of opened)
    one_adopted it alone sound =
        let kind = kind_of opened in
        let was = found (it.was_sound sound).clean in
        let same = it.same sound in
        let journal = it.found sound (subst (AreAlone kind) same.now_is alone) was.ordered in
        record { journal = subst (λ (d : Database). (meaning_of kind).is_journal d) (sym same.now_is) journal; settled = same.committed_is ∙ (was.settled ∙ sym same.now_is) }

    pub shown_adopted : IsAdoptedFrom g first opened → IsSound g (conn_of opened) → IsShown g image opened
    shown_adopted it sound = record { was = first; found = found (it.was_sound sound).clean; same = it.same sound; shows = it.shown sound }

    pub one_made : (made : Tables) → IsMadeIn g first made opened → IsOne g (kind_of opened) (conn_of opened)
    one_made made it alone = it.made

    pub shown_made : IsBlank (state g first).now → (made : Tables) → IsMadeIn g first made opened → IsSound g (conn_of opened)
        → IsMadeEmpty g image opened
    shown_made blank made it sound =
        record { was = first; found = found (it.was_sound sound).clean; blank = blank; made = it.made; empty = it.empty sound }

-- ---- what is said of the kind that a run has, for each that it may have begun with

module _ {S C L : Type 0} {g : Ghosts S} {o : InFiles S C L} (made : Tables) (image : Image) (opened : OpenedOver S) (has : HasKind g opened made image) where
  pub leads_kind : (files : C) → (o.clean files → IsSound g (conn_of opened)) → (Step : Journal → Journal → Type 0)
      → (o.clean files → (before : Journal) → BeginsIn made (kind_of opened) image before
      → EndsWith (meaning_of (kind_of opened)) o files (Step before))
      → LeadsIn made image o files Step
  leads_kind files sound Step ends clean =
      at_kind g made image opened has (λ kind before. EndsWith (meaning_of kind) o files (Step before)) (sound clean).clean (ends clean)

-- a connection that was opened, for a journal in tables of its kind
pub begun_found : {S : Type 0} {g : Ghosts S} (made mine : Tables) (image : Image) (first : Held S)
    → IsFoundIn g made mine image first → (before : Journal) → BeginsIn made mine image before → Begun (meaning_of mine) g first before
begun_found made mine image first found before begin clean = let it = found clean in (it.0, (it.1 mine before begin).1)

-- the same of a keeper over tables of one kind
pub leads_found : {S C L : Type 0} {g : Ghosts S} {o : InFiles S C L} (made mine : Tables) (image : Image) (first : Held S) (files : C)
    → IsFoundIn g made mine image first → (o.clean files → IsSound g first) → (Step : Journal → Journal → Type 0)
    → (o.clean files → (before : Journal) → (HasCleanDisk (state g first) → IsSound g first × Keeps (meaning_of mine) g first before)
    → EndsWith (meaning_of mine) o files (Step before))
    → LeadsIn made image o files Step
leads_found {o = o} made mine image first files found sound Step ends clean kind before begin =
    let it = found (sound clean).clean in
    let at = it.1 kind before begin in
    subst (λ (k : Tables). EndsWith (meaning_of k) o files (Step before)) (sym at.0) (ends clean before (λ _. (it.0, at.1)))
