-- What the next run finds of one of `collect --sequences`. (own)
use Rattle.std.specs.Prelude.{ℕ, ◌≡◌, ◌⊎◌, ◌↔◌, ◌++◌, List, [], Option, Some, IfSome, MatchOption}
use Rattle.std.specs.FinMap.{empty}
use Rattle.std.specs.List.{Contains}
use Rattle.sqlite.specs.Recovery.{Image}
use Rattle.jc_base.specs.declared.id.Id128.{Id128}
use Rattle.jc_base.specs.declared.id.Key.{Key}
use Rattle.jc_base.specs.Journal.{Journal}
use Rattle.jc_base.specs.LogEntry.{IsKey, LogEntry}
use Rattle.jc_collector.specs.Kinds.{BeginsIn, meaning_of}
use Rattle.jc_collector.specs.OverFiles.{IsListed}
use Rattle.jc_collector.specs.Unopened.{LeavesBegun}
use Rattle.jc_collector_answers.specs.Collected.{those_named, told_within}
use Rattle.jc_collector_answers.specs.Tied.{NamedWith}
use Rattle.jc_collector_answers.specs.declared.name_lines.NameLines.TheVariants.{MachinesAndUploads}
use Rattle.jc_command.specs.Failed.{AreAsBegun}
use Rattle.jc_command.specs.Run.{Begins, CollectsIntoUnion, Devices, begins_with, leaves, stored_before}
use Rattle.jc_command_args.specs.declared.request.Tables.{Tables}
use Rattle.jc_command_shared.specs.Deeds.{Deed}
use Rattle.jc_command_shared.specs.declared.status.Status.{Status}
use Rattle.jc_database.specs.Files.{HoldsJournal, InFiles}
use Rattle.jc_keeper.specs.declared.form.Shape.{Shape}
use Rattle.jc_ledger.specs.Kept.{NoneCollide}
use Rattle.jc_ledger.specs.Lagging.{MayCatchUp}
use Rattle.jc_ledger.specs.Union.{union}
use Rattle.jc_ledger_files.specs.declared.window_name.WindowName.{WindowName}
use Rattle.jc_ledger_files.specs.NotesOf.{notes_of}
use Rattle.jc_ledger_files.specs.Owned.{owner_found}
use Rattle.jc_ledger_files.specs.Windows.{known_in}
use Rattle.jc_collector.specs.UnionLeft.{LeavesNoted}
use Rattle.jc_upload.specs.declared.answer.Answer.{Answer}
use Rattle.jc_runs.specs.Between.{Between, MayBegin, nothing}
use Rattle.jc_runs.specs.Steps.{EndsRun, StopsRun}

-- A run began with this: its database's files had what the present database has, in tables of this kind, or nothing yet, and
-- the files of notes told what is known of entries' keys.
pub record BeganWith (made kind : Tables) (begun : Begins) (b : Between) : Type 0 where
  pub holds : BeginsIn made kind begun.image b.now
  pub noted : (k : Key) → IsKey k → begun.noted k ≡ b.known k
  pub owner : (s : Id128) → begun.owner s ≡ b.owner s
  pub past : stored_before begun ≡ b.past
  pub came : (e : LogEntry) → Contains b.came e → begun.came e

-- what there is behind a run that left this journal, and these files of notes, when these entries had come
abbrev pub behind : Between → (now : Journal) → (windows : WindowName → List ℕ) → (came : List LogEntry) → Between
behind b now windows came = record b { known = known_in (λ w. notes_of (windows w)); owner = owner_found windows; now = now; came = came }

-- These entries came so far, and no two of them collide.
pub record HaveCome (comes : LogEntry → Type 0) (b : Between) (came : List LogEntry) : Type 0 where
  pub had_come : (e : LogEntry) → Contains b.came e → Contains came e
  pub have_come : (e : LogEntry) → comes e → Contains came e
  pub apart : NoneCollide (Contains came)

-- What came is a list, which is such if no two of what came collide.
pub record ComeAsList (comes : LogEntry → Type 0) (b : Between) : Type 0 where
  pub came : List LogEntry
  pub are : (e : LogEntry) → comes e ↔ Contains came e
  pub come : NoneCollide comes → HaveCome comes b came

-- The next run finds files such as were left, when these entries have come.
pub record IsFound (files : WindowName → List ℕ → Type 0) (images : Image → Type 0) (comes : LogEntry → Type 0) (b : Between)
    (windows : WindowName → List ℕ) (image : Image) (came : List LogEntry) : Type 0 where
  pub files_left : (w : WindowName) → files w (windows w)
  pub image_left : images image
  pub come : HaveCome comes b came

-- The files of its database have a journal, and so the step was made.
pub record NextFinds (kind : Tables) (b : Between) (windows : WindowName → List ℕ) (image : Image) (came : List LogEntry) (Is : Between → Type 0)
    : Type 0 where
  pub now : Journal
  pub holds : HoldsJournal (meaning_of kind) image now
  pub is : Is (behind b now windows came)

-- The first ones of some uploads are such.
pub record AreFirst (AreUploads Are : List (Option (List ℕ)) → Type 0) : Type 0 where
  pub first : List (Option (List ℕ))
  pub others : List (Option (List ℕ))
  pub both : AreUploads (first ++ others)
  pub are : Are first

-- A run printed the lines of answers, and what they say of the uploads that the list names is such a step.
pub record PrintsStep (Runs : List (Option (List ℕ)) → List Answer → Type 0) (told : List ℕ → Option (List ℕ)) (list : List ℕ) (most_windows : Option ℕ) (given : Option (List ℕ))
    (status : Status) (old new : Option (List ℕ)) : Type 0 where
  pub text : Option (List ℕ)
  pub listed : IsListed told list given text
  pub step : NamedWith (λ answers. AreFirst (those_named (told_within most_windows told) MachinesAndUploads text) (λ uploads. Runs uploads answers)) text status old new

-- With what a run left the next one begins, whichever tables it would make, and behind a turn with nothing.
abbrev pub NextBegins : Type 0
NextBegins =
    (made kind : Tables) (b : Between) (now finished aside : Journal) (windows : WindowName → List ℕ) (image : Image) (came : List LogEntry)
    (told found : List ℕ → Option (List ℕ)) (deeds : Option (List Deed)) (shape : Shape) → BeginsIn made kind image now → union finished aside ≡ b.past
    → BeganWith made kind (begins_with image windows finished aside (Contains came) told found deeds shape) (behind b now windows came)

-- What a run that begins with what there is supposes of its notes is so if a run may begin.
abbrev pub BegunMayBegin : Type 0
BegunMayBegin =
    (made kind : Tables) (b : Between) (finished aside : Journal) (windows : WindowName → List ℕ) (image : Image)
    (came : List LogEntry) (told found : List ℕ → Option (List ℕ)) (deeds : Option (List Deed)) (shape : Shape)
    → BeganWith made kind (begins_with image windows finished aside (Contains came) told found deeds shape) b → MayBegin b
    → MayCatchUp (known_in (λ w. notes_of (windows w))) (union finished aside) b.now (Contains came)

-- No file yet: neither a database nor a log beside it.
abbrev pub no_file : Image
no_file = record { log = []; db = [] }

-- Over the present database a run may begin so, whichever tables it makes.
abbrev pub MayMake : Between → Type 0
MayMake b = (made : Tables) → BeginsIn made made no_file b.now

-- The first run begins so, and with no file of notes.
abbrev pub FirstBegins : Type 0
FirstBegins =
    (made : Tables) (told found : List ℕ → Option (List ℕ)) (deeds : Option (List Deed)) (shape : Shape)
    → BeganWith made made (begins_with no_file (λ _. []) empty empty (Contains []) told found deeds shape) nothing

-- Behind a run that opened neither its notes nor its database the next one begins with what that one found.
abbrev pub BeginsUnopened : Type 0
BeginsUnopened =
    (made kind : Tables) (b : Between) (finished aside still_finished still_aside : Journal) (windows : WindowName → List ℕ) (image : Image)
    (before came : List LogEntry) (told found told' found' : List ℕ → Option (List ℕ))
    (deeds deeds' : Option (List Deed)) (shape shape' : Shape)
    → BeganWith made kind (begins_with image windows finished aside (Contains before) told found deeds shape) b
    → ((e : LogEntry) → Contains b.came e → Contains came e) → union still_finished still_aside ≡ b.past
    → BeganWith made kind (begins_with image windows still_finished still_aside (Contains came) told' found' deeds' shape') b

-- What is found of files that had this, behind a run that opened no database in them: what they had, if it handed none
-- back, or else what a crash may leave of what it did, if their disks returned what was written.
abbrev pub IsFoundUnopened : {S C L : Type 0} → InFiles S C L → (first : Image) → Option L → Image → Type 0
IsFoundUnopened o first left image =
    MatchOption left (image ≡ first)
    (λ files. o.is_clean_left files × (o.is_usual first files × o.may_be_left files image))

module _ {S C L N : Type 0} (begun : Begins) (g : Devices S C L N) (files_leave : N → WindowName → List ℕ → Type 0) (notes : N) where
  -- What a run promises that ended with these files, closed, and these notes is a step, whether the next run finds the files of
  -- its database as they read then, or as a crash leaves them.
  abbrev pub EndIsStep : C → Type 0
  EndIsStep files =
      (made kind : Tables) (list : List ℕ) (most_windows : Option ℕ) (given old new : Option (List ℕ)) (status : Status) (b : Between)
      (windows : WindowName → List ℕ) (image : Image) (came : List LogEntry) (deeds : Option (List Deed))
      → CollectsIntoUnion begun g (leaves (Some files) (Some notes) deeds) made list most_windows given old new status
      → g.database.clean files → g.ledger.clean notes → BeganWith made kind begun b → MayBegin b
      → IsFound (files_leave notes) (λ found. (found ≡ g.database.image files) ⊎ g.database.outcomes files found) (g.ledger.came notes) b windows image came
      → NextFinds kind b windows image came (λ c. PrintsStep (λ uploads answers. EndsRun uploads answers b c) begun.told list most_windows given status old new)

  -- So is what one promises over the uploads that a text names, that was stopped, of whatever the stop left of its database's
  -- files.
  abbrev pub StopIsStep : Type 0
  StopIsStep =
      (made kind : Tables) (text : Option (List ℕ)) (most_windows : Option ℕ) (answers : List Answer) (b : Between)
      (windows : WindowName → List ℕ) (image : Image) (came : List LogEntry)
      → LeavesNoted (those_named (told_within most_windows begun.told) MachinesAndUploads text) (meaning_of kind) (stored_before begun) b.now (g.ledger.came notes) (g.ledger.may_leave notes) answers image
      → g.ledger.clean notes → BeganWith made kind begun b
      → IsFound (files_leave notes) (λ left. left ≡ image) (g.ledger.came notes) b windows image came
      → NextFinds kind b windows image came (λ c. AreFirst (those_named (told_within most_windows begun.told) MachinesAndUploads text) (λ uploads. StopsRun uploads answers b c))

  -- Behind a run that failed before its database was opened there is what there was: with what it left of notes and of
  -- its database's files the next one begins.
  abbrev pub FailLeadsOn : Type 0
  FailLeadsOn =
      (made kind : Tables) (left : Option L) (b : Between) (finished aside : Journal) (windows : WindowName → List ℕ)
      (image : Image) (came : List LogEntry) (told found : List ℕ → Option (List ℕ)) (deeds : Option (List Deed))
      (shape : Shape)
      → AreAsBegun begun g notes → IfSome left (LeavesBegun g.database made begun.image) → BeganWith made kind begun b
      → ((w : WindowName) → files_leave notes w (windows w)) → IsFoundUnopened g.database begun.image left image
      → ((e : LogEntry) → Contains b.came e → Contains came e) → union finished aside ≡ b.past
      → ∥ BeganWith made kind (begins_with image windows finished aside (Contains came) told found deeds shape) b ∥₁
