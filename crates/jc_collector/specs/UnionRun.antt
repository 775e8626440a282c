-- What comes of a run over a union of databases: what it stores, prints and leaves. (own)
use Rattle.std.specs.Prelude.{◌≡◌, ◌≢◌, ◌⊎◌, ℕ, List, Option, Result, Err, IfOk, IfErr, IsSomeAnd}
use Rattle.std.specs.Io.KnownBytes.{Keeps as KeepsBytes}
use Rattle.sqlite.specs.Store.{Ghosts}
use Rattle.sqlite.specs.Recovery.{Image}
use Rattle.sqlite.specs.Held.{Held, state}
use Rattle.sqlite.specs.State.{HasCleanDisk}
use Rattle.jc_base.specs.Journal.{Journal}
use Rattle.jc_collector_answers.specs.Collected.{told_within}
use Rattle.jc_collector_answers.specs.Named.{PrintsNamed}
use Rattle.jc_collector_answers.specs.Tied.{PrintsFront}
use Rattle.jc_command_args.specs.declared.request.Tables.{Tables}
use Rattle.jc_command_shared.specs.Deeds.{Deed}
use Rattle.jc_command_shared.specs.Failure.{status_of}
use Rattle.jc_command_shared.specs.declared.failure.Failure.{Failure}
use Rattle.jc_command_shared.specs.declared.status.Status.TheVariants.{Failed, Success}
use Rattle.jc_database.specs.Files.{HoldsJournal, InFiles, Keeps}
use Rattle.jc_ledger.specs.declared.ledger.Ledger as ledgers
use Rattle.jc_ledger.specs.Kept.{NoneCollide}
use Rattle.jc_ledger.specs.Lagging.{MayCatchUp}
use Rattle.jc_store.specs.Meaning.{IsSound, Meaning}
use Rattle.jc_collector.specs.Kinds.{BeginsIn, meaning_of}
use Rattle.jc_collector.specs.IntoUnion.{LeadsIf, StoresNotedNames}
use Rattle.jc_collector.specs.OverFiles.{IsListed}
use Rattle.jc_collector.specs.UnionLeft.{FilesLeft, HowPrinted, UnionIsLeft, handed_back}
use Rattle.jc_collector.specs.Unopened.{IsLeftUnopened}
use Rattle.jc_collector.specs.declared.into_union.closing.FailedRun.{FailedRun}
use Rattle.jc_collector.specs.declared.into_union.closing.NotedRun.{NotedRun}

-- A present database was found in files that had this, in tables of this meaning: they keep whatever journal the files had, of
-- whichever kind its tables were, for these are of that kind.
pub record IsFoundAs (m : Meaning) {S : Type 0} (g : Ghosts S) (made : Tables) (first : Image) (present : Held S) : Type 0 where
  pub sound : HasCleanDisk (state g present) → IsSound g present
  pub keeps : HasCleanDisk (state g present) → (kind : Tables) (before : Journal) → BeginsIn made kind first before → Keeps m g present before
  pub same : HasCleanDisk (state g present) → (kind : Tables) (before : Journal) → BeginsIn made kind first before
      → (image : Image) (found : Journal) → HoldsJournal m image found → HoldsJournal (meaning_of kind) image found

-- The present database at this path wasn't opened, and nothing is printed. The notes are handed back as they were given, and what is left
-- of the database's files.
pub record FailsEarly {S C R N : Type 0} (o : InFiles S C R) (made : Tables) (database : List ℕ) (first : Image) (ledger : N) (result : Result (NotedRun C N) (FailedRun R N)) (old new : Option (List ℕ)) (deeds deeds_now : Option (List Deed)) : Type 0 where
  pub run : FailedRun R N
  pub failed : result ≡ Err run
  pub left : IsSomeAnd run.left (λ it. (it.ledger ≡ ledger) × IsLeftUnopened o made database first run.failure deeds deeds_now it.files)
  pub kept : KeepsBytes old new

module _ {S C R N : Type 0} (o : InFiles S C R) (n : ledgers.Ghosts N) (made : Tables) (first : Image) (told : List ℕ → Option (List ℕ)) (past : Journal) (ledger : N) where
  -- What a run over the uploads that a text names comes to, from files that had this, and these notes.
  pub record RunsNoted (text : Option (List ℕ)) (result : Result (NotedRun C N) (FailedRun R N)) (old new errors errors_now : Option (List ℕ)) : Type 0 where
    -- Line by line the answers are those to the uploads in the files that the lines name, by what is told of these. What they
    -- acknowledge is stored in the union, if what was noted is what the finished databases have, and some of what the present
    -- one had. Then what is noted is what they have.
    pub stored : IfOk result (λ run. LeadsIf made first o run.files
        (λ before. MayCatchUp (n.known ledger) past before (n.came ledger) × n.clean run.ledger × NoneCollide (n.came run.ledger))
        (StoresNotedNames told past (n.known run.ledger) (n.came run.ledger) (n.owner ledger) (n.owner run.ledger) text run.status old new))
    pub printed : IfOk result (λ run. PrintsNamed text run.status old new)
    pub quiet : IfOk result (λ run. run.status ≡ Success → KeepsBytes errors errors_now)
    -- No failure has shut the notes.
    pub noted : IfOk result (λ run. n.clean run.ledger → n.sound run.ledger)
    -- If it fails, what those acknowledge that were printed before is in what is handed back, and a fault is that of an entry over
    -- the limits.
    pub left : IfErr result (λ run. IsSomeAnd run.left (λ it. IsSomeAnd it.files (λ files. UnionIsLeft n made first told past
        (λ before. MayCatchUp (n.known ledger) past before (n.came ledger) × n.sound ledger) text (λ Holds. PrintsFront Holds old new) run.failure (handed_back o first files) it.ledger)))
    pub untouched : IfErr result (λ run. status_of run.failure ≢ Failed → KeepsBytes old new)

  -- The same of a run that may fail before its present database is open.
  abbrev pub RunsNotedOrNot : (database : List ℕ) → (text : Option (List ℕ)) → Result (NotedRun C N) (FailedRun R N) → (old new errors errors_now : Option (List ℕ)) → (deeds deeds_now : Option (List Deed)) → Type 0
  RunsNotedOrNot database text result old new errors errors_now deeds deeds_now =
      FailsEarly o made database first ledger result old new deeds deeds_now ⊎ RunsNoted text result old new errors errors_now

-- The same of a list, which is given by its name, where windows of sequences may be bounded.
abbrev pub RunsFromList : {S C R N : Type 0} → InFiles S C R → ledgers.Ghosts N → (made : Tables) → (first : Image) → (told : List ℕ → Option (List ℕ)) → (most_windows : Option ℕ)
    → (past : Journal) → (ledger : N) → (database list : List ℕ) → (given : Option (List ℕ)) → Result (NotedRun C N) (FailedRun R N) → (old new errors errors_now : Option (List ℕ)) → (deeds deeds_now : Option (List Deed)) → Type 0
RunsFromList o n made first told most_windows past ledger database list given result old new errors errors_now deeds deeds_now =
    FailsEarly o made database first ledger result old new deeds deeds_now
    ⊎ ((text : Option (List ℕ)) × IsListed told list given text
    × RunsNoted o n made first (told_within most_windows told) past ledger text result old new errors errors_now)

-- What a run over the uploads that a list names left that failed so: of the text that its name stands for, where windows may be bounded.
abbrev pub ListIsLeft : {N : Type 0} → ledgers.Ghosts N → (made : Tables) → (first : Image) → (told : List ℕ → Option (List ℕ)) → (most_windows : Option ℕ)
    → (past : Journal) → (Noted : Journal → Type 0) → (list : List ℕ) → (given : Option (List ℕ))
    → (Prints : (text : Option (List ℕ)) → HowPrinted) → Failure → FilesLeft → (notes : N) → Type 0
ListIsLeft n made first told most_windows past Noted list given Prints failure files notes =
    (text : Option (List ℕ)) × IsListed told list given text
    × UnionIsLeft n made first (told_within most_windows told) past Noted text (Prints text) failure files notes
