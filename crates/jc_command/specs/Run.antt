-- How a run of the program ends. (own)
use Rattle.std.specs.Prelude.{◌≡◌, ◌⊎◌, ◌↔◌, ◌∷◌, [], ⊤, ℕ, List, Option, Some, IsSomeAnd, MatchOption, length, map, option_map}
use Rattle.std.specs.Borrow.{Bor}
use Rattle.std.specs.List.{Contains}
use Rattle.std.specs.Io.KnownBytes.{Keeps}
use Rattle.clap.specs.Words.{Text}
use Rattle.sqlite.specs.Recovery.{Image}
use Rattle.jc_base.specs.Journal.{Journal}
use Rattle.jc_base.specs.LogEntry.{LogEntry}
use Rattle.jc_keeper.specs.Listing.{export_text}
use Rattle.jc_keeper.specs.declared.form.Shape.{Shape}
use Rattle.jc_database.specs.Files.{InFiles}
use Rattle.jc_ledger.specs.declared.ledger.Ledger as ledgers
use Rattle.jc_ledger.specs.Kept.{NoneCollide}
use Rattle.jc_ledger.specs.Known.{Known}
use Rattle.jc_ledger.specs.Lagging.{MayCatchUp}
use Rattle.jc_ledger.specs.Owners.{Owner, StayOwned, StayOwnedAfter}
use Rattle.jc_ledger.specs.Union.{union}
use Rattle.jc_ledger_files.specs.declared.window_name.WindowName.{WindowName}
use Rattle.jc_ledger_files.specs.NotesOf.{notes_of}
use Rattle.jc_ledger_files.specs.Owned.{owner_found}
use Rattle.jc_ledger_files.specs.Windows.{known_in}
use Rattle.jc_collector.specs.declared.health.Health.{Health}
use Rattle.jc_command_shared.specs.Deeds.{Deed, OpensOnce}
use Rattle.jc_command_shared.specs.declared.failure.Failure.{Failure}
use Rattle.jc_command_shared.specs.declared.failure.Failure.TheVariants.{BadUpload, CannotOpen, OutOfMemory, ReadFailed, WriteFailed}
use Rattle.jc_command_shared.specs.declared.status.Status.{Status}
use Rattle.jc_command_shared.specs.declared.status.Status.TheVariants.{Success, Refused, Misused, Failed, Unanswered}
use Rattle.jc_command_args.specs.declared.request.Request.{Request}
use Rattle.jc_command_args.specs.declared.request.Tables.{Tables}
use Rattle.jc_command_args.specs.declared.request.Request.TheVariants.{Collect, CollectListed, CollectIntoUnion, Show, Check, CheckNoted, Notes, ListOwners, RenameOwner, ReleaseSequence, Migrate, Verify, Inspect, Upload, Ack, Acknowledged, ListCodes}
use Rattle.jc_command_args.specs.declared.request.Request.TheVariants as request
use Rattle.jc_collector_answers.specs.Answered.{PrintsAnswers, number_of_uploads}
use Rattle.jc_collector_answers.specs.Collected.{just}
use Rattle.jc_collector.specs.Checked.{IsHealth, PrintsHealth, count_line}
use Rattle.jc_collector.specs.Compared.{ComparesNoted}
use Rattle.jc_collector.specs.Database.{CheckFailsBy, CollectFailsBy, DatabaseFailsBy, ShowFailsBy}
use Rattle.jc_command_shared.specs.Failure.{status_of}
use Rattle.jc_collector.specs.Inspected.{PrintsInspectedOf, PrintsSomeInspected}
use Rattle.jc_collector.specs.IntoUnion.{LeadsIf, StoresNotedFromList, UnionFailsBy}
use Rattle.jc_collector.specs.FromList.{PrintsFromList}
use Rattle.jc_collector.specs.Earlier.{LeadsFrom}
use Rattle.jc_collector.specs.Exported.{KeepsAndExports, OpensAndExports, OpensAndMayReplace}
use Rattle.jc_collector.specs.Kinds.{LeadsIn, LeadsThere}
use Rattle.jc_collector.specs.OverFiles.{CollectsAll, Prints, PrintsAsked, StoresFromList, StoresPrinted, given_uploads}
use Rattle.jc_collector.specs.UnionLeft.{FilesLeft, HowPrinted}
use Rattle.jc_collector.specs.UnionRun.{ListIsLeft}
use Rattle.jc_sender.specs.Sent.{PrintsSomeUpload}
use Rattle.jc_sender.specs.Acknowledged.{TellsOfSome, TellsOfUpload}
use Rattle.jc_sender.specs.Failing.{AckFailsBy, UploadFailsBy}
use Rattle.jc_sender.specs.Taken.{MayMoveOn, PrintsSomePoint}
use Rattle.jc_sender.specs.Verdict.{PrintsReadingIn, PrintsSomeReading}
use Rattle.jc_command_args.specs.Words.{AreWrong, AskFor, AskForHelp}
use Rattle.jc_command.specs.Notes.{ChangesNotes, ChangesOwners, ChangesSequence, FolderFailsBy, ListsOwners, NotesFailBy, ReleaseFailsBy, ReleasesSequence, RenamesOwner, WorksOnNotes}

-- ---- what is done over a database

-- What a run begins with: what its database's files have, what the files of sequences' windows note, the machines that
-- sequences belong to, what is still noted of the finished databases, and of those that were set aside, the entries that came
-- in earlier runs, what is told of the files that are read, by their names, and what is found of those of notes, what was done
-- to files before, and how entries have to be shown.
pub record Begins : Type 1 where
  pub image : Image
  pub noted : Known
  pub owner : Owner
  pub finished : Journal
  pub aside : Journal
  pub came : LogEntry → Type 0
  pub told : List ℕ → Option (List ℕ)
  pub found : List ℕ → Option (List ℕ)
  pub deeds : Option (List Deed)
  pub shape : Shape

abbrev pub begins_with : Image → (windows : WindowName → List ℕ) → (finished aside : Journal) → (came : LogEntry → Type 0) → (told found : List ℕ → Option (List ℕ)) → (deeds : Option (List Deed)) → Shape → Begins
begins_with image windows finished aside came told found deeds shape = record {
  image = image;
  noted = known_in (λ w. notes_of (windows w));
  owner = owner_found windows;
  finished = finished;
  aside = aside;
  came = came;
  told = told;
  found = found;
  deeds = deeds;
  shape = shape;
}

-- What is still noted of earlier databases. Notes may lag behind one that was set aside, and behind no other but the present
-- one: what they lack of it isn't here, and may be stored once more.
abbrev pub stored_before : Begins → Journal
stored_before begun = union begun.finished begun.aside

-- What has come is what had come before, and a list of more.
abbrev pub CameAsList : (before now : LogEntry → Type 0) → Type 0
CameAsList before now = (more : List LogEntry) × ((e : LogEntry) → now e ↔ before e ⊎ Contains more e)

-- what is seen of the files of its database, of a store S, and of the notes N of sequences
pub record Devices (S C L N : Type 0) : Type 1 where
  pub database : InFiles S C L
  pub ledger : ledgers.Ghosts N

abbrev pub devices : {S C L N : Type 0} → InFiles S C L → ledgers.Ghosts N → Devices S C L N
devices o n = record { database = o; ledger = n }

-- what it leaves: the files of its database, closed, the notes of sequences, and what is done to files by then
pub record Leaves (C N : Type 0) : Type 0 where
  pub files : Option C
  pub ledger : Option N
  pub deeds : Option (List Deed)

abbrev pub leaves : {C N : Type 0} → Option C → Option N → Option (List Deed) → Leaves C N
leaves files ledger deeds = record { files = files; ledger = ledger; deeds = deeds }

-- What is left of a union's files and notes has what the answers acknowledge whose lines were printed, if the notes were at
-- first what is still noted of earlier databases, and some of what the present one had. A list names their uploads. If a run
-- fails so, a fault is that of an entry over the limits.
abbrev pub LeavesUnion : {S C L N : Type 0} → Begins → Devices S C L N → (made : Tables) → (list : List ℕ) → (most_windows : Option ℕ) → (given : Option (List ℕ))
    → (Prints : (text : Option (List ℕ)) → HowPrinted) → Failure → FilesLeft → (notes : N) → Type 0
LeavesUnion begun g made list most_windows given Prints failure files notes =
    ListIsLeft g.ledger made begun.image begun.told most_windows (stored_before begun)
    (λ before. MayCatchUp begun.noted (stored_before begun) before begun.came) list given Prints failure files notes

module _ {S C L N : Type 0} (begun : Begins) (g : Devices S C L N) (left : Leaves C N) where
  -- A run ends with the files of its database, closed, and made such a step over the journal that they had, or over the empty
  -- one in tables that it made.
  abbrev pub Leads : (made : Tables) → (Journal → Journal → Type 0) → Type 0
  Leads made Step = IsSomeAnd left.files (λ closed. LeadsIn made begun.image g.database closed Step)

  -- The same of a run that makes no tables.
  abbrev pub LeadsOn : (Journal → Journal → Type 0) → Type 0
  LeadsOn Step = IsSomeAnd left.files (λ closed. LeadsThere begun.image g.database closed Step)

  -- what is told of the files with these names, or what standard input gives if there are none
  abbrev pub told_of : (named : List (Bor (List ℕ))) → (given : Option (List ℕ)) → List (Option (List ℕ))
  told_of named given = given_uploads (map (λ path. begun.told path.now) named) given

  -- An answer to each of these uploads was printed, and what they acknowledge is in the files, and was exported if a path is
  -- given. If they have these bytes: what they make of the journal, and how each is answered.
  pub record Collects (database : List ℕ) (at : Option (List ℕ)) (made : Tables) (named : List (Bor (List ℕ))) (given old new : Option (List ℕ)) (status : Status) : Type 0 where
    pub printed : PrintsAnswers (number_of_uploads (length named)) status old new
    pub kept : Leads made (KeepsAndExports database at begun.deeds left.deeds)
    pub stores : Leads made (StoresPrinted (just (told_of named given)) (number_of_uploads (length named)) status old new)
    pub collects : (known : List (List ℕ)) → told_of named given ≡ map (λ upload. Some upload) known → Leads made (CollectsAll known old new)

  -- An answer to each upload that a list names was printed, line by line, and what they acknowledge is in the files, and was
  -- exported if a path is given.
  pub record CollectsFromList (database : List ℕ) (at : Option (List ℕ)) (made : Tables) (list : List ℕ) (given old new : Option (List ℕ)) (status : Status) : Type 0 where
    pub printed : PrintsFromList begun.told list given status old new
    pub kept : Leads made (KeepsAndExports database at begun.deeds left.deeds)
    pub stores : Leads made (StoresFromList begun.told list given status old new)

  -- If what the files of sequences noted is what is still noted of earlier databases, and some of what the present one had, the
  -- notes' disk returned what was written, and of the entries that came no two differ and have one key and one digest, then such
  -- a step was made over the present database's journal.
  abbrev pub LeadsNoted : (made : Tables) → ((known : Known) → (came : LogEntry → Type 0) → (owner : Owner) → Journal → Journal → Type 0) → Type 0
  LeadsNoted made Step =
      IsSomeAnd left.files (λ closed. IsSomeAnd left.ledger (λ notes. LeadsIf made begun.image g.database closed
      (λ before. MayCatchUp begun.noted (stored_before begun) before begun.came × g.ledger.clean notes × NoneCollide (g.ledger.came notes))
      (Step (g.ledger.known notes) (g.ledger.came notes) (g.ledger.owner notes))))

  -- Each sequence that belonged to a machine belongs to it, if the notes are sound at the end. If the disk returned what was
  -- written, it does also after a crash then.
  pub record KeepOwners (notes : N) : Type 0 where
    pub stay : g.ledger.sound notes → StayOwned begun.owner (g.ledger.owner notes)
    pub after : g.ledger.clean notes → StayOwnedAfter begun.owner (g.ledger.may_own notes)

  -- An answer to each upload that a list names was printed, line by line. What they acknowledge is stored in the present database,
  -- or was still noted of an earlier one. What is noted then is what these have. What is new of a line belongs to the machine that
  -- it names, and an entry that 71 names to another one. No sequence was taken from its owner, and one came to belong to a machine
  -- only by a line that names it. No failure has shut the notes.
  pub record CollectsIntoUnion (made : Tables) (list : List ℕ) (most_windows : Option ℕ) (given old new : Option (List ℕ)) (status : Status) : Type 0 where
    pub printed : PrintsFromList begun.told list given status old new
    pub stores : LeadsNoted made (λ known came owner. StoresNotedFromList begun.told most_windows (stored_before begun) known came begun.owner owner list given status old new)
    pub owners : IsSomeAnd left.ledger KeepOwners
    pub noted : IsSomeAnd left.ledger (λ notes. g.ledger.clean notes → g.ledger.sound notes)

  -- The line of what there is of a journal was printed. If the files are given back, it is that of the journal which they
  -- had, and they keep it.
  pub record Checks (old new : Option (List ℕ)) (status : Status) : Type 0 where
    pub health : Health
    pub is : IsHealth health
    pub printed : PrintsHealth health status old new
    pub counted : MatchOption left.files (status ≡ Refused) (λ closed. LeadsThere begun.image g.database closed (Prints count_line old new))

  -- The same of a journal in tables of an earlier kind, which the files then have in these.
  pub record Migrates (tables : Tables) (old new : Option (List ℕ)) (status : Status) : Type 0 where
    pub health : Health
    pub is : IsHealth health
    pub printed : PrintsHealth health status old new
    pub moved : MatchOption left.files (status ≡ Refused) (λ closed. LeadsFrom tables begun.image g.database closed (Prints count_line old new))

  -- What standard output gains when a request is performed, over what standard input gives and what is told of files, the status, and what becomes of
  -- the files of its database: from `verify` a reading, from `inspect` what an upload says, from `upload` an upload, from
  -- `ack` a resume point, from `acknowledged` what answers say of an upload, from `collect` an answer to each upload, from
  -- `export` and `show` a listing, from `check` and `migrate` what there is of a journal, and from `notes` and `owners` what
  -- is noted in a folder.
  abbrev pub Performs : Request → (given old new : Option (List ℕ)) → Status → Type 0
  Performs (Verify kind file) given old new status =
      PrintsSomeReading kind status old new
      × ((held : List ℕ) → begun.told file.now ≡ Some held → PrintsReadingIn kind held status old new)
  Performs (Inspect file most_entries most_fields most_bytes most_windows) given old new status =
      PrintsSomeInspected status old new
      × ((upload : List ℕ) → begun.told file.now ≡ Some upload
      → PrintsInspectedOf (record { entries = most_entries; fields = most_fields; bytes = most_bytes; windows = most_windows }) upload status old new)
  Performs (Upload source limit most_bytes whole) given old new status = (status ≡ Success) × PrintsSomeUpload begun.told source limit most_bytes whole old new
  Performs (Ack source) given old new status = (status ≡ Success) × PrintsSomePoint begun.told source given old new begun.deeds left.deeds
  Performs (Acknowledged upload) given old new status =
      TellsOfSome given status old new
      × ((held : List ℕ) → begun.told upload.now ≡ Some held → TellsOfUpload held given status old new)
  Performs (Collect database tables uploads then_export) given old new status =
      Collects database.now (option_map (λ name. name.now) then_export) tables uploads.items given old new status
  Performs (CollectListed database tables list then_export) given old new status =
      CollectsFromList database.now (option_map (λ name. name.now) then_export) tables list.now given old new status
  Performs (CollectIntoUnion database tables list sequences most_windows then_export) given old new status =
      CollectsIntoUnion tables list.now most_windows given old new status
      × LeadsNoted tables (λ known came owner before. OpensAndExports database.now (option_map (λ name. name.now) then_export) begun.deeds left.deeds)
  Performs (request.Export database) given old new status = (status ≡ Success) × LeadsOn (Prints export_text old new)
  Performs (Show database field id first last) given old new status =
      (status ≡ Success)
      × LeadsOn (PrintsAsked begun.shape (option_map (λ name. name.now) field) (option_map (λ digits. digits.now) id) first last old new)
  Performs (Check database) given old new status = Checks old new status
  Performs (CheckNoted database sequences) given old new status = ComparesNoted begun.image g.database left.files status old new
  Performs (Notes sequences task) given old new status = WorksOnNotes begun.found sequences.now task given old new begun.deeds left.deeds status
  Performs (ListOwners sequences) given old new status = ListsOwners begun.found sequences.now old new status
  Performs (RenameOwner sequences name other) given old new status =
      (status ≡ Success) × RenamesOwner begun.found sequences.now name.now other.now old new begun.deeds left.deeds
  Performs (ReleaseSequence sequences sequence) given old new status =
      (status ≡ Success) × ReleasesSequence begun.found sequences.now sequence.now old new begun.deeds left.deeds
  Performs (Migrate database tables) given old new status = Migrates tables old new status
  Performs ListCodes given old new status = status ≡ Success

  -- It is performed, and nothing is printed on standard error if all is well.
  pub record HasPerformed (request : Request) (given output output' errors errors' : Option (List ℕ)) (status : Status) : Type 0 where
    pub performs : Performs request given output output' status
    pub quiet : status ≡ Success → Keeps errors errors'

-- ---- why nothing is done

-- Why a command that reads one file fails.
abbrev pub FileFailsBy : (file : List ℕ) → Failure → Type 0
FileFailsBy file (CannotOpen path) = path.now ≡ file
FileFailsBy file ReadFailed = ⊤
FileFailsBy file WriteFailed = ⊤
FileFailsBy file OutOfMemory = ⊤
FileFailsBy file _ = ⊥

-- Why `acknowledged` fails: its file can't be opened or read, or is no such upload.
abbrev pub UploadFileFailsBy : (file : List ℕ) → Failure → Type 0
UploadFileFailsBy file BadUpload = ⊤
UploadFileFailsBy file failure = FileFailsBy file failure

-- Why a request fails, by what is told of files: its own file can't be opened, what it names is refused, or a device or memory
-- fails.
abbrev pub FailsBy : (told : List ℕ → Option (List ℕ)) → Request → (given : Option (List ℕ)) → Failure → Type 0
FailsBy told (Verify kind file) given failure = FileFailsBy file.now failure
FailsBy told (Inspect file most_entries most_fields most_bytes most_windows) given failure = FileFailsBy file.now failure
FailsBy told (Upload source limit most_bytes whole) given failure = UploadFailsBy told source failure
FailsBy told (Ack source) given failure = AckFailsBy told source given failure
FailsBy told (Acknowledged upload) given failure = UploadFileFailsBy upload.now failure
FailsBy told (Collect database tables uploads then_export) given failure =
    CollectFailsBy database.now (map (λ path. path.now) uploads.items) (option_map (λ name. name.now) then_export) failure
FailsBy told (CollectListed database tables list then_export) given failure =
    CollectFailsBy database.now (list.now ∷ []) (option_map (λ name. name.now) then_export) failure
FailsBy told (CollectIntoUnion database tables list sequences most_windows then_export) given failure =
    (failure ≡ CannotOpen sequences) ⊎ UnionFailsBy database.now (list.now ∷ []) (option_map (λ name. name.now) then_export) failure
FailsBy told (request.Export database) given failure = DatabaseFailsBy database.now failure
FailsBy told (Show database field id first last) given failure =
    ShowFailsBy database.now (option_map (λ name. name.now) field) (option_map (λ digits. digits.now) id) failure
FailsBy told (Check database) given failure = CheckFailsBy database.now failure
FailsBy told (CheckNoted database sequences) given failure = (failure ≡ ReadFailed) ⊎ CheckFailsBy database.now failure
FailsBy told (Notes sequences task) given failure = NotesFailBy sequences.now task given failure
FailsBy told (ListOwners sequences) given failure = FolderFailsBy sequences.now failure
FailsBy told (RenameOwner sequences old new) given failure = FolderFailsBy sequences.now failure
FailsBy told (ReleaseSequence sequences sequence) given failure = ReleaseFailsBy sequences.now sequence.now failure
FailsBy told (Migrate database tables) given failure = CheckFailsBy database.now failure
FailsBy told ListCodes given failure = failure ≡ WriteFailed

-- ---- what is done to files

-- What a request does to files, whether it is performed or fails: it opens its database, once or not at all, and makes,
-- renames or removes no other file but that of an export or of a resume point and the one beside it, or files of notes. That
-- file stays as it was, or a new one takes its place at once, in the case of a resume point one with the text of such a
-- point, and no more. Beside that `collect` notes sequences in a folder, of which the notes' ledger speaks.
abbrev pub DoesFor : (found : List ℕ → Option (List ℕ)) → Request → (given : Option (List ℕ)) → (old new : Option (List Deed)) → Type 0
DoesFor found (Verify kind file) given old new = new ≡ old
DoesFor found (Inspect file most_entries most_fields most_bytes most_windows) given old new = new ≡ old
DoesFor found (Upload source limit most_bytes whole) given old new = new ≡ old
DoesFor found (Ack source) given old new = MayMoveOn source.resume.now old new
DoesFor found (Acknowledged upload) given old new = new ≡ old
DoesFor found (Collect database tables uploads then_export) given old new =
    OpensAndMayReplace database.now (option_map (λ name. name.now) then_export) old new
DoesFor found (CollectListed database tables list then_export) given old new =
    OpensAndMayReplace database.now (option_map (λ name. name.now) then_export) old new
DoesFor found (CollectIntoUnion database tables list sequences most_windows then_export) given old new =
    OpensAndMayReplace database.now (option_map (λ name. name.now) then_export) old new
DoesFor found (request.Export database) given old new = OpensOnce database.now old new
DoesFor found (Show database field id first last) given old new = OpensOnce database.now old new
DoesFor found (Check database) given old new = OpensOnce database.now old new
DoesFor found (CheckNoted database sequences) given old new = OpensOnce database.now old new
DoesFor found (Notes sequences task) given old new = ChangesNotes found sequences.now task given old new
DoesFor found (ListOwners sequences) given old new = new ≡ old
DoesFor found (RenameOwner sequences name other) given old new = ChangesOwners found sequences.now name.now other.now old new
DoesFor found (ReleaseSequence sequences sequence) given old new = ChangesSequence found sequences.now sequence.now old new
DoesFor found (Migrate database tables) given old new = OpensOnce database.now old new
DoesFor found ListCodes given old new = new ≡ old

-- What arguments have it do: nothing, unless they ask for something.
abbrev pub DoesAsked : (found : List ℕ → Option (List ℕ)) → List Text → (given : Option (List ℕ)) → (old new : Option (List Deed)) → Type 0
DoesAsked found words given old new = (new ≡ old) ⊎ ((request : Request) × AskFor words request × DoesFor found request given old new)

-- Only the run over a union opens notes.
abbrev pub OpensNotes : Request → Type 0
OpensNotes (CollectIntoUnion database tables list sequences most_windows then_export) = ⊤
OpensNotes _ = ⊥

-- Arguments ask for one.
abbrev pub AskToOpenNotes : List Text → Type 0
AskToOpenNotes words = (request : Request) × AskFor words request × OpensNotes request

-- ---- a run

-- The arguments ask for something, and it is performed.
abbrev pub PerformsAsked : {S C L N : Type 0} → Begins → Devices S C L N → Leaves C N → List Text → (given old new : Option (List ℕ)) → Status → Type 0
PerformsAsked begun g left words given old new status =
    (request : Request) × AskFor words request × Performs begun g left request given old new status

-- The arguments ask for something that fails with this status, before anything is printed.
pub record StopsAsked (told : List ℕ → Option (List ℕ)) (words : List Text) (given old new : Option (List ℕ)) (status : Status) : Type 0 where
  pub request : Request
  pub asked : AskFor words request
  pub failure : Failure
  pub why : FailsBy told request given failure
  pub judged : status ≡ status_of failure
  pub kept : Keeps old new

-- How a run over these arguments ends, by its status, unless something fails that is reported on standard error: what it
-- prints on standard output, and that it prints nothing on standard error if all is well.
abbrev pub Ends : {S C L N : Type 0} → Begins → Devices S C L N → Leaves C N → List Text
    → (given output output' errors errors' : Option (List ℕ)) → Status → Type 0
Ends begun g left words given output output' errors errors' Success =
    Keeps errors errors' × (AskForHelp words ⊎ PerformsAsked begun g left words given output output' Success)
Ends begun g left words given output output' errors errors' Refused =
    PerformsAsked begun g left words given output output' Refused ⊎ StopsAsked begun.told words given output output' Refused
Ends begun g left words given output output' errors errors' Misused =
    (AreWrong words × Keeps output output') ⊎ StopsAsked begun.told words given output output' Misused
Ends begun g left words given output output' errors errors' Failed = PerformsAsked begun g left words given output output' Failed
Ends begun g left words given output output' errors errors' Unanswered = PerformsAsked begun g left words given output output' Unanswered

-- The same of a run that keeps its files and notes to itself, by what was done to others.
unfoldable pub EndsWithin : {S C L N : Type 0} → Begins → Devices S C L N → (deeds : Option (List Deed)) → List Text → (given output output' errors errors' : Option (List ℕ)) → Status → Type 0
EndsWithin {S} {C} {L} {N} begun g deeds words given output output' errors errors' status =
    (files : Option C) × (ledger : Option N) × Ends begun g (leaves files ledger deeds) words given output output' errors errors' status

-- If a run stops short, a device or memory failed, or something was asked for that is refused.
abbrev pub Stops : (told : List ℕ → Option (List ℕ)) → List Text → (given output output' : Option (List ℕ)) → Failure → Type 0
Stops told words given output output' failure =
    (status_of failure ≡ Failed) ⊎ StopsAsked told words given output output' (status_of failure)
