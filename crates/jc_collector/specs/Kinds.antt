-- In which tables the journal of a database is, and what its files begin and end with. (own)
use Rattle.std.specs.Prelude.{◌≡◌, ◌⊎◌, ◌↔◌, IsSome, codes}
use Rattle.std.specs.FinMap.{empty as none}
use Rattle.sqlite.specs.Store.{Ghosts}
use Rattle.sqlite.specs.Recovery.{Image}
use Rattle.sqlite.specs.Schema.{Schema}
use Rattle.sqlite.specs.Effect.{Database}
use Rattle.sqlite_schema.specs.Names.{table_named}
use Rattle.sqlite.specs.Held.{Held, state}
use Rattle.sqlite.specs.State.{HasCleanDisk, State}
use Rattle.jc_base.specs.Journal.{Journal}
use Rattle.jc_command_args.specs.declared.request.Tables.{Tables}
use Rattle.jc_command_args.specs.declared.request.Tables.TheVariants.{ByKey, ByNumber}
use Rattle.jc_store.specs.Meaning.{AreMade, IsSound, KeepsJournal, Kept, Meaning, journal_of}
use Rattle.jc_schema_two.specs.Tables.{two}
use Rattle.jc_store.specs.Statements.{IsBlank, IsSame}
use Rattle.jc_schema_two.specs.Adopting as of_two
use Rattle.jc_schema_one.specs.Adopting as of_texts
use Rattle.jc_schema_three.specs.Tables.{kind_three, three}
use Rattle.jc_database.specs.Files.{AreInOrder, EndsWith, HoldsJournal, HoldsNone, InFiles, IsFound}
use Rattle.jc_collector.specs.declared.database.Opened.{Opened}
use Rattle.jc_collector.specs.declared.database.Opened.TheVariants as opened

-- ---- the kinds of tables

abbrev pub meaning_of : Tables → Meaning
meaning_of ByKey = two
meaning_of ByNumber = three

-- The tables are those of a kind as they are made, and nothing stands beside them.
abbrev pub AreAlone : Tables → Database → Type 0
AreAlone ByKey db = of_two.AreAlone db
AreAlone ByNumber db = of_texts.AreAlone db

-- The tables show a journal of a kind: their version is its own, and each row shows an entry, or a field of one.
abbrev pub Shows : Tables → State → Type 0
Shows ByKey s = of_two.ShowsRecords s
Shows ByNumber s = of_texts.ShowsJournal kind_three s

-- A keeper's kind, and its connection.
abbrev pub kind_of : {K N : Type 0} → Opened K N → Tables
kind_of (opened.ByKey keeper) = ByKey
kind_of (opened.ByNumber keeper) = ByNumber

abbrev pub conn_of : {S : Type 0} → Opened (Kept S) (Kept S) → Held S
conn_of (opened.ByKey keeper) = keeper.conn
conn_of (opened.ByNumber keeper) = keeper.conn

-- keepers over a store, whose tables are of either kind
abbrev pub OpenedOver : Type 0 → Type 0
OpenedOver S = Opened (Kept S) (Kept S)

abbrev pub journal_in : {S : Type 0} → Ghosts S → OpenedOver S → Journal
journal_in g opened = journal_of (meaning_of (kind_of opened)) g (conn_of opened)

-- ---- a database

-- One of its tables is `record`, as it is if they are by key, or none is `entry`, as one is if they are by text.
abbrev pub HasFields : Schema → Type 0
HasFields schema = IsSome (table_named schema (codes "record")) ⊎ (¬ IsSome (table_named schema (codes "entry")))

module _ {S : Type 0} (g : Ghosts S) (before : Held S) where
  -- Tables of a kind were made over a connection, of an empty journal.
  pub record IsMadeIn (tables : Tables) (opened : OpenedOver S) : Type 0 where
    pub kind : kind_of opened ≡ tables
    pub sound : HasCleanDisk (state g (conn_of opened)) → IsSound g (conn_of opened)
    pub was_sound : IsSound g (conn_of opened) → IsSound g before
    pub made : AreMade (meaning_of (kind_of opened)) g (conn_of opened)
    pub empty : IsSound g (conn_of opened) → journal_in g opened ≡ none

  -- The tables that a connection has were taken for a journal's, by the kind that they tell.
  pub record IsAdoptedFrom (opened : OpenedOver S) : Type 0 where
    pub kind : (kind_of opened ≡ ByKey) ↔ HasFields (state g before).now.schema
    pub sound : HasCleanDisk (state g (conn_of opened)) → IsSound g (conn_of opened)
    pub was_sound : IsSound g (conn_of opened) → IsSound g before
    pub keeps : KeepsJournal (meaning_of (kind_of opened)) g before (conn_of opened)
    pub same : IsSound g (conn_of opened) → IsSame (state g before) (state g (conn_of opened))
    -- They show a journal, and are one, if nothing stands beside them.
    pub shown : IsSound g (conn_of opened) → Shows (kind_of opened) (state g before)
    pub found : IsSound g (conn_of opened) → AreAlone (kind_of opened) (state g before).now → AreInOrder (state g before).now
        → (meaning_of (kind_of opened)).is_journal (state g before).now

module _ {S : Type 0} (g : Ghosts S) (image : Image) (opened : OpenedOver S) where
  -- A keeper's tables show a journal of its kind, as they stood when the files, which had this, were opened. They are the
  -- same since.
  pub record IsShown : Type 0 where
    pub was : Held S
    pub found : IsFound g image was
    pub same : IsSame (state g was) (state g (conn_of opened))
    pub shows : Shows (kind_of opened) (state g was)

  -- There were no tables when the files, which had this, were opened. These were made, and their journal is empty.
  pub record IsMadeEmpty : Type 0 where
    pub was : Held S
    pub found : IsFound g image was
    pub blank : IsBlank (state g was).now
    pub made : AreMade (meaning_of (kind_of opened)) g (conn_of opened)
    pub empty : journal_in g opened ≡ none

-- ---- files

-- What a run begins with: the files have this journal in tables of a kind, or it is the empty one and they have none. Then
-- the tables are of the kind that is made.
abbrev pub BeginsIn : (made kind : Tables) → Image → Journal → Type 0
BeginsIn made kind image before = HoldsJournal (meaning_of kind) image before ⊎ (HoldsNone image × (kind ≡ made) × (before ≡ none))

-- What a run does with the journal in the files that it began with, if their disks returned what was written. The tables stay
-- of their kind.
abbrev pub LeadsIn : (made : Tables) → {S C L : Type 0} → Image → InFiles S C L → C → (Journal → Journal → Type 0) → Type 0
LeadsIn made image o files Step =
    o.clean files → (kind : Tables) (before : Journal) → BeginsIn made kind image before
    → EndsWith (meaning_of kind) o files (Step before)

-- The same of a run that makes no tables, whichever it would make.
abbrev pub LeadsThere : {S C L : Type 0} → Image → InFiles S C L → C → (Journal → Journal → Type 0) → Type 0
LeadsThere image o files Step = (made : Tables) → LeadsIn made image o files Step
