-- What is said of a database that a run has open. (own)
use Rattle.std.specs.Prelude.{◌≡◌, ℕ, List, Option}
use Rattle.sqlite.specs.Store.{Ghosts}
use Rattle.sqlite.specs.Recovery.{Image}
use Rattle.sqlite.specs.State.{HasCleanDisk}
use Rattle.sqlite.specs.Held.{Held, state}
use Rattle.jc_base.specs.Journal.{Journal}
use Rattle.jc_collector_answers.specs.Collected.{KeepsFirstOf, StoresFirstOf}
use Rattle.jc_command_args.specs.declared.request.Tables.{Tables}
use Rattle.jc_store.specs.Crash.{LeavesJournals, MayLeave}
use Rattle.jc_store.specs.Meaning.{AreMade, IsSound, Meaning, journal_of}
use Rattle.jc_upload.specs.declared.answer.Answer.{Answer}
use Rattle.jc_database.specs.Files.{EndsWith, InFiles, Keeps}
use Rattle.jc_collector.specs.Kinds.{AreAlone, BeginsIn, OpenedOver, conn_of, kind_of, meaning_of}

-- If the disks of a connection that was opened return what was written, then it is sound, and keeps this journal.
abbrev pub Begun : Meaning → {S : Type 0} → Ghosts S → (first : Held S) → Journal → Type 0
Begun m g first before = HasCleanDisk (state g first) → IsSound g first × Keeps m g first before

module _ {S : Type 0} (g : Ghosts S) where
  -- The same of the journal that the files had, which stands in tables of this kind.
  abbrev pub IsFoundIn : (made mine : Tables) → Image → (first : Held S) → Type 0
  IsFoundIn made mine image first =
      HasCleanDisk (state g first)
      → IsSound g first
      × ((kind : Tables) (before : Journal) → BeginsIn made kind image before → (kind ≡ mine) × Keeps (meaning_of mine) g first before)

  -- Its tables, which are of this kind, are a journal's, whoever wrote the files, if nothing stands beside them.
  abbrev pub IsOne : (mine : Tables) → (first : Held S) → Type 0
  IsOne mine first = AreAlone mine (state g first).now → AreMade (meaning_of mine) g first

  -- If the disks have returned what was written, then this holds of each journal that a run may have begun with.
  abbrev pub WhileClean : (now : Held S) → (Begins Holds : Journal → Type 0) → Type 0
  WhileClean now Begins Holds = HasCleanDisk (state g now) → (before : Journal) → Begins before → Holds before

module _ (m : Meaning) {S : Type 0} (g : Ghosts S) where
  -- If the connection is sound besides, it keeps the journal that came of that one by such a step.
  abbrev pub StandsOver : (now : Held S) → (Begins : Journal → Type 0) → (Journal → Journal → Type 0) → Type 0
  StandsOver now Begins Step =
      IsSound g now → (before : Journal) → Begins before → AreMade m g now × Step before (journal_of m g now)

  -- Once the database is closed, its files have the journal that came of that one by such a step.
  abbrev pub EndsOver : {C L : Type 0} → InFiles S C L → (first : Held S) → C → (Journal → Journal → Type 0) → Type 0
  EndsOver o first files Step = o.clean files → (before : Journal) → Begun m g first before → EndsWith m o files (Step before)

  module _ (now : Held S) where
    -- Whatever a crash leaves is a journal.
    pub record Recovers : Type 0 where
      pub made : AreMade m g now
      pub journals : LeavesJournals m g now

    -- Whatever journal a crash leaves is such a one.
    abbrev pub LeavesOpen : (Journal → Journal → Type 0) → Journal → Type 0
    LeavesOpen Kept before = (found : Journal) → MayLeave m g now found → Kept before found

    -- What these answers acknowledge of some uploads is stored, and found after a crash.
    pub record HoldsOpen (AreUploads : List (Option (List ℕ)) → Type 0) (before : Journal) (answers : List Answer) : Type 0 where
      pub stored : IsSound g now → StoresFirstOf AreUploads before answers (journal_of m g now)
      pub found : (found : Journal) → MayLeave m g now found → KeepsFirstOf AreUploads before answers found

-- ---- the same of a keeper over tables of either kind

module _ {S : Type 0} (g : Ghosts S) (opened : OpenedOver S) where
  -- The files had no journal in tables of another kind.
  abbrev pub HasKind : (made : Tables) → Image → Type 0
  HasKind made image =
      HasCleanDisk (state g (conn_of opened)) → (kind : Tables) (before : Journal) → BeginsIn made kind image before
      → kind ≡ kind_of opened

  abbrev pub CleanIn : (made : Tables) → Image → (Holds : Journal → Type 0) → Type 0
  CleanIn made image Holds = WhileClean g (conn_of opened) (BeginsIn made (kind_of opened) image) Holds

  abbrev pub StandsIn : (made : Tables) → Image → (Journal → Journal → Type 0) → Type 0
  StandsIn made image Step =
      StandsOver (meaning_of (kind_of opened)) g (conn_of opened) (BeginsIn made (kind_of opened) image) Step

  abbrev pub RecoversIn : Type 0
  RecoversIn = Recovers (meaning_of (kind_of opened)) g (conn_of opened)

  abbrev pub HoldsIn : (AreUploads : List (Option (List ℕ)) → Type 0) → (before : Journal) → List Answer → Type 0
  HoldsIn AreUploads before answers = HoldsOpen (meaning_of (kind_of opened)) g (conn_of opened) AreUploads before answers
