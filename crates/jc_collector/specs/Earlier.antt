-- The tables that `migrate` takes a journal from. (own)
use Rattle.std.specs.Prelude.{◌≡◌, ◌↔◌, ⊤}
use Rattle.sqlite.specs.Store.{Ghosts}
use Rattle.sqlite.specs.Recovery.{Image}
use Rattle.sqlite.specs.Held.{Held, state}
use Rattle.jc_base.specs.Journal.{Journal}
use Rattle.jc_command_args.specs.declared.request.Tables.{Tables}
use Rattle.jc_command_args.specs.declared.request.Tables.TheVariants.{ByNumber}
use Rattle.jc_store.specs.Meaning.{IsSound, KeepsJournal, Kept, Meaning}
use Rattle.jc_schema_one.specs.Tables.{one}
use Rattle.jc_schema_two.specs.Tables.{two}
use Rattle.jc_schema_three.specs.Tables.{three}
use Rattle.jc_database.specs.Files.{BeginsWith, EndsWith, InFiles, Keeps, LeadsOver}
use Rattle.jc_collector.specs.Kinds.{HasFields, meaning_of}
use Rattle.jc_collector.specs.declared.earlier.Earlier.{Earlier}
use Rattle.jc_collector.specs.declared.earlier.Earlier.TheVariants as earlier

-- ---- the kinds of tables

-- those of schema 1, and those by key
pub data Older : Type 0 where
  oldest : Older
  by_key : Older

abbrev pub meaning_before : Older → Meaning
meaning_before oldest = one
meaning_before by_key = two

-- Those of schema 1 become tables of either kind, and those by key become tables by number.
abbrev pub Becomes : Older → Tables → Type 0
Becomes oldest tables = ⊤
Becomes by_key tables = tables ≡ ByNumber

-- A keeper's kind, and its connection.
abbrev pub older_of : {O K : Type 0} → Earlier O K → Older
older_of (earlier.Oldest keeper) = oldest
older_of (earlier.ByKey keeper) = by_key

abbrev pub conn_before : {S : Type 0} → Earlier (Kept S) (Kept S) → Held S
conn_before (earlier.Oldest keeper) = keeper.conn
conn_before (earlier.ByKey keeper) = keeper.conn

-- keepers over a store
abbrev pub EarlierOver : Type 0 → Type 0
EarlierOver S = Earlier (Kept S) (Kept S)

-- ---- a database

-- The tables that a connection has were taken for a journal's, by the kind that they tell.
pub record IsTakenFrom {S : Type 0} (g : Ghosts S) (before : Held S) (taken : EarlierOver S) : Type 0 where
  pub kind : (older_of taken ≡ by_key) ↔ HasFields (state g before).now.schema
  pub was_sound : IsSound g (conn_before taken) → IsSound g before
  pub keeps : KeepsJournal (meaning_before (older_of taken)) g before (conn_before taken)

-- ---- files

-- If a connection that was opened is sound, it keeps the journal that the files had, which stands in tables of this kind.
abbrev pub IsEarlierFound : {S : Type 0} → Ghosts S → Image → EarlierOver S → Type 0
IsEarlierFound g image taken =
    IsSound g (conn_before taken) → (kind : Older) (before : Journal) → BeginsWith (meaning_before kind) image before
    → (kind ≡ older_of taken) × Keeps (meaning_before (older_of taken)) g (conn_before taken) before

-- What becomes of the journal of a connection in files that are closed, in tables by number.
abbrev pub EndsByNumber : {S C L : Type 0} → Ghosts S → InFiles S C L → EarlierOver S → C → (Journal → Journal → Type 0) → Type 0
EndsByNumber g o taken files Step =
    o.clean files → (before : Journal)
    → (IsSound g (conn_before taken) → Keeps (meaning_before (older_of taken)) g (conn_before taken) before)
    → EndsWith three o files (Step before)

-- What `migrate` does with the journal in the files that it began with, if their disks returned what was written: it finds
-- it in tables of an earlier kind, and leaves one in these.
abbrev pub LeadsFrom : (tables : Tables) → {S C L : Type 0} → Image → InFiles S C L → C → (Journal → Journal → Type 0) → Type 0
LeadsFrom tables image o files Step =
    (kind : Older) → Becomes kind tables → LeadsOver (meaning_before kind) (meaning_of tables) image o files Step
