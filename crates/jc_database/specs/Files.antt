-- What a database's files hold. (own)
use Rattle.std.specs.Prelude.{◌≡◌, ◌⊎◌, IsTrue}
use Rattle.std.specs.FinMap.{empty}
use Rattle.std.specs.List.{AllByRecursion}
use Rattle.sqlite_trees.specs.declared.store.Shape.TheVariants.{Table}
use Rattle.sqlite_trees.specs.View.{IsClean, IsQuiet, IsShaped}
use Rattle.sqlite.specs.Store.{Ghosts}
use Rattle.sqlite.specs.Recovery.{Image}
use Rattle.sqlite.specs.Tree.{Trees}
use Rattle.sqlite.specs.Effect.{Database, IsDatabase}
use Rattle.sqlite.specs.State.{HasCleanDisk}
use Rattle.sqlite.specs.Held.{AreDatabases, Held, state}
use Rattle.sqlite.specs.Closing.{HoldsAlone}
use Rattle.sqlite.specs.Files.{HoldsDatabase, IsNothing, IsEmpty}
use Rattle.jc_base.specs.Journal.{Journal}
use Rattle.jc_store.specs.Meaning.{Meaning, IsSound, AreMade, journal_of}
use Rattle.jc_store.specs.Statements.{IsBlank}

-- ---- files

-- The files have a database with no rows, or are ones in which no database has been made yet.
abbrev pub HoldsNone : Image → Type 0
HoldsNone image = IsNothing image ⊎ ∥ ((db : Trees) × HoldsDatabase image db × IsEmpty db) ∥₁

-- What is seen of the files of a store S: once they are closed, C, while they are the store's, and as a call that failed
-- hands them back, L.
pub record InFiles (S C L : Type 0) : Type 1 where
  -- Their disks have returned what was written so far.
  pub clean : C → Type 0
  -- what they hold
  pub image : C → Image
  -- A crash may leave this of them.
  pub outcomes : C → Image → Type 0
  -- A crash may leave this of the files that a store has.
  pub may_leave : S → Image → Type 0
  -- The disks of what is handed back have returned what was written so far.
  pub is_clean_left : L → Type 0
  -- What is handed back is usual, if the files held this as they were opened.
  pub is_usual : (before : Image) → L → Type 0
  -- A crash may leave this of what is handed back.
  pub may_be_left : L → Image → Type 0

module _ (m : Meaning) where
  -- Each page is the one of the last commit in the log that has it, or else that of the database file (section 4.5 of
  -- SQLite's "Database File Format"). These pages are a database that obeys its schema, and its tables have this journal.
  pub record HoldsJournal (image : Image) (found : Journal) : Type 0 where
    pub database : Database
    pub sound : IsDatabase database
    pub holds : ∥ HoldsDatabase image database.trees ∥₁
    pub is_journal : m.is_journal database
    pub reads : m.journal_in database ≡ found

  -- What a run begins with: the files have this journal, or it is the empty one and they have none.
  abbrev pub BeginsWith : Image → Journal → Type 0
  BeginsWith image found = HoldsJournal image found ⊎ (HoldsNone image × (found ≡ empty))

  -- The files have this journal, as they read now and whatever a crash leaves of them.
  pub record KeepsAlways {S C L : Type 0} (o : InFiles S C L) (files : C) (found : Journal) : Type 0 where
    pub now : HoldsJournal (o.image files) found
    pub left : (image : Image) → o.outcomes files image → HoldsJournal image found

  -- The files have such a journal.
  pub record EndsWith {S C L : Type 0} (o : InFiles S C L) (files : C) (Is : Journal → Type 0) : Type 0 where
    pub found : Journal
    pub is : Is found
    pub keeps : KeepsAlways o files found

  -- Databases of this meaning obey their schemas.
  abbrev pub AreLawful : Type 0
  AreLawful = (db : Database) → m.is_journal db → IsDatabase db

-- What a run does with the journal in the files that it began with, if their disks returned what was written. It finds it in
-- tables of meaning m, and leaves one in those of n.
abbrev pub LeadsOver : (m n : Meaning) → {S C L : Type 0} → Image → InFiles S C L → C → (Journal → Journal → Type 0) → Type 0
LeadsOver m n first o files Step = o.clean files → (before : Journal) → BeginsWith m first before → EndsWith n o files (Step before)

-- ---- a connection

-- Its tables are made, and have this journal.
pub record Keeps (m : Meaning) {S : Type 0} (g : Ghosts S) (c : Held S) (journal : Journal) : Type 0 where
  pub made : AreMade m g c
  pub is : journal_of m g c ≡ journal

-- The rows of each table stand behind rowids that rise.
abbrev pub AreInOrder : Database → Type 0
AreInOrder db = AllByRecursion (λ t. IsShaped Table (db.trees t.tree)) db.schema.tables

-- Once it is closed, its files have what it had committed, as they read now and whatever a crash leaves of them, and so
-- has the database file with no log beside it.
pub record IsCopied {S C L : Type 0} (g : Ghosts S) (o : InFiles S C L) (c : Held S) (files : C) : Type 0 where
  pub was_clean : HasCleanDisk (state g c)
  pub was_open : IsTrue (state g c).is_open
  pub seen : HoldsAlone (o.image files) (state g c).committed.trees
  pub left : (image : Image) → o.outcomes files image → HoldsAlone image (state g c).committed.trees

-- A close that failed hands this store back of it: a crash leaves of it nothing that it couldn't leave before.
pub record IsGivenBack {S : Type 0} (g : Ghosts S) (c : Held S) (last : S) : Type 0 where
  pub quiet : IsQuiet g.view g.faults g.recovers g.is_shielded c.store last
  pub sound : IsClean (g.view last) → AreDatabases (g.recovers last)

-- ---- a store, without a connection over it

-- Whatever a crash leaves of it is a database, and it has tree t in row t + 1 of sqlite_schema.
pub record IsSoundStore {S : Type 0} (g : Ghosts S) (s : S) : Type 0 where
  pub numbered : IsClean (g.view s) → IsTrue (g.view s).is_numbered
  pub sound : IsClean (g.view s) → AreDatabases (g.recovers s)

-- Its files have what it had committed, as they read now and whatever a crash leaves of them, and so has the database file
-- with no log beside it.
pub record IsWritten {S C L : Type 0} (g : Ghosts S) (o : InFiles S C L) (s : S) (files : C) : Type 0 where
  pub was_clean : IsClean (g.view s)
  pub was_open : IsTrue (g.view s).is_open
  pub seen : HoldsAlone (o.image files) (g.view s).committed
  pub left : (image : Image) → o.outcomes files image → HoldsAlone image (g.view s).committed

-- One that was opened: it is open and has what the files had, all of it committed.
pub record IsFound {S : Type 0} (g : Ghosts S) (image : Image) (c : Held S) : Type 0 where
  pub sound : IsSound g c
  pub live : IsDatabase (state g c).now
  pub ordered : AreInOrder (state g c).now
  pub settled : (state g c).committed ≡ (state g c).now
  pub whole : (db : Trees) → ∥ HoldsDatabase image db ∥₁ → (state g c).now.trees ≡ db
  pub none : HoldsNone image → IsBlank (state g c).now
  pub no_rows : HoldsNone image → IsEmpty (state g c).now.trees
