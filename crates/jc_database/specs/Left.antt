-- What a crash leaves of a database's files while it is opened, made or closed. (own)
use Rattle.std.specs.Prelude.{◌≡◌, ◌⊎◌, ℕ, false}
use Rattle.std.specs.FinMap.{empty}
use Rattle.sqlite_pool.specs.Stored.{is_summed}
use Rattle.sqlite.specs.Store.{Ghosts}
use Rattle.sqlite.specs.Recovery.{Image}
use Rattle.sqlite.specs.View.{IsClean}
use Rattle.sqlite.specs.Tree.{Trees}
use Rattle.sqlite.specs.State.{HasCleanDisk}
use Rattle.sqlite.specs.Effect.{Database, IsDatabase}
use Rattle.sqlite.specs.Held.{Held, state}
use Rattle.sqlite.specs.Opening.{HoldsIn}
use Rattle.sqlite.specs.Files.{HoldsDatabase}
use Rattle.sqlite.specs.declared.error.Error.{Error}
use Rattle.sqlite.specs.declared.error.Error.TheVariants.{SqliteFailure}
use Rattle.sqlite.specs.declared.error.ErrorCode.TheVariants.{CannotOpen, DatabaseBusy, OutOfMemory}
use Rattle.jc_base.specs.Journal.{Journal}
use Rattle.jc_store.specs.Crash.{LeavesJournals, LeavesNoMore, LeavesOr, MayLeave}
use Rattle.jc_store.specs.Meaning.{AreMade, IsSound, Meaning, journal_of}
use Rattle.jc_store.specs.Statements.{IsBlank}
use Rattle.jc_database.specs.Files.{AreLawful, HoldsJournal, HoldsNone, InFiles, IsFound}

-- ---- files

-- The files have each database that they had before, and none if they had none.
pub record StaysAs (before left : Image) : Type 0 where
  pub kept : (db : Trees) → ∥ HoldsDatabase before db ∥₁ → ∥ HoldsDatabase left db ∥₁
  pub none : HoldsNone before → HoldsNone left

-- A database that they have has no tables.
abbrev pub HaveNoTables : Image → Type 0
HaveNoTables image = (db : Database) → IsDatabase db → ∥ HoldsDatabase image db.trees ∥₁ → IsBlank db

-- A journal of this meaning has tables.
abbrev pub HaveTables : Meaning → Type 0
HaveTables m = (db : Database) → m.is_journal db → ¬ IsBlank db

-- They are as they were, or had no tables, and have an empty journal in tables of this meaning.
abbrev pub StaysOrIsMade : Meaning → (before left : Image) → Type 0
StaysOrIsMade m before left = ∥ StaysAs before left ⊎ (HaveNoTables before × HoldsJournal m left empty) ∥₁

-- No database that they have ends its pages in sums of their bytes, for which eight bytes of each are reserved (section
-- 1.3.4 of SQLite's "Database File Format").
abbrev pub HaveNoSums : Image → Type 0
HaveNoSums image = (size : ℕ) (db : Trees) → HoldsIn size image db → is_summed size ≡ false

-- ---- what a call that failed hands back of them

-- Why files aren't opened. Then there is nothing of them to hand back.
abbrev pub IsEarly : Error → Type 0
IsEarly error =
    (error ≡ SqliteFailure CannotOpen) ⊎ ((error ≡ SqliteFailure OutOfMemory) ⊎ (error ≡ SqliteFailure DatabaseBusy))

module _ {S C L : Type 0} (o : InFiles S C L) where
  -- Whatever a crash leaves of what is handed back is such an image, if the disks returned what was written.
  abbrev pub LeavesOnly : (Image → Type 0) → (before : Image) → L → Type 0
  LeavesOnly Is before left = o.is_clean_left left → o.is_usual before left → (image : Image) → o.may_be_left left image → Is image

  -- Whatever a crash leaves of the files, they are as they were.
  abbrev pub LeavesAsBefore : (before : Image) → L → Type 0
  LeavesAsBefore before left = LeavesOnly (StaysAs before) before left

  -- Whatever a crash leaves of the files, they are as they were, or an empty journal was made in them.
  abbrev pub LeavesAsBeforeOr : Meaning → (before : Image) → L → Type 0
  LeavesAsBeforeOr m before left = LeavesOnly (StaysOrIsMade m before) before left

-- Something may be left of any files: of closed ones what they hold, and of others some image, if their disks returned what
-- was written.
pub record LeavesSome {S C L : Type 0} (g : Ghosts S) (o : InFiles S C L) : Type 0 where
  pub closed : (files : C) → o.outcomes files (o.image files)
  pub open_still : (s : S) → IsClean (g.view s) → (image : Image) × o.may_leave s image
  pub handed_back : (left : L) → o.is_clean_left left → (image : Image) × o.may_be_left left image

-- ---- a connection

module _ {S : Type 0} (g : Ghosts S) where
  -- Its disk has returned what was written so far, and the files have a database that might have been left of it.
  pub record HaveLeft (conn : Held S) (image : Image) : Type 0 where
    pub clean : HasCleanDisk (state g conn)
    pub has : ∥ ((found : Trees) × (state g conn).may_leave found × HoldsDatabase image found) ∥₁

  -- It was opened from files that had this.
  abbrev pub IsFrom : Image → (first : Held S) → Type 0
  IsFrom image first = HasCleanDisk (state g first) → IsFound g image first

  -- This holds of what the files had as the connection was opened, if no call since then left more of them.
  abbrev pub IfNoMore : (conn : Held S) → (Image → Type 0) → Type 0
  IfNoMore conn Holds =
      (before : Image) (first : Held S) → IsFrom before first → LeavesNoMore (state g first) (state g conn) → Holds before

  -- The same, if it had no tables then, and what the calls left besides is an empty journal, in tables of this meaning.
  abbrev pub IfMade : Meaning → (conn : Held S) → (Image → Type 0) → Type 0
  IfMade m conn Holds =
      AreLawful m → (before : Image) (first : Held S) → IsFrom before first
      → IsBlank (state g first).now → (HasCleanDisk (state g conn) → HasCleanDisk (state g first))
      → LeavesOr m g first conn (λ found. found ≡ empty) → Holds before

  module _ {C L : Type 0} (o : InFiles S C L) where
    -- Whatever a crash leaves of a store is such an image, if its disk returned what was written.
    abbrev pub StopsOnly : (last : S) → (Image → Type 0) → Type 0
    StopsOnly last Is = IsClean (g.view last) → (left : Image) → o.may_leave last left → Is left

module _ (m : Meaning) {S : Type 0} (g : Ghosts S) where
  -- The files have a journal that a crash might have left of the connection.
  abbrev pub IsLeftOf : (conn : Held S) → Image → Type 0
  IsLeftOf conn left = ∥ ((found : Journal) × MayLeave m g conn found × HoldsJournal m left found) ∥₁

  -- A crash leaves such a journal of a store, if all that it might have left of the connection are journals. If the
  -- connection is sound, it leaves what that has.
  pub record StopsIn {C L : Type 0} (o : InFiles S C L) (conn : Held S) (last : S) : Type 0 where
    pub left : AreLawful m → LeavesJournals m g conn → StopsOnly g o last (IsLeftOf conn)
    pub durable : IsSound g conn → AreMade m g conn → StopsOnly g o last (λ left. HoldsJournal m left (journal_of m g conn))
