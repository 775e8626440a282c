-- What a run over a union of databases leaves of its files and its notes that was stopped, or failed. (own)
use Rattle.std.specs.Prelude.{ℕ, List, Option}
use Rattle.sqlite.specs.Store.{Ghosts}
use Rattle.sqlite.specs.Recovery.{Image}
use Rattle.sqlite.specs.Held.{Held, state}
use Rattle.sqlite.specs.State.{HasCleanDisk}
use Rattle.jc_base.specs.Journal.{Journal}
use Rattle.jc_base.specs.LogEntry.{LogEntry}
use Rattle.jc_collector_answers.specs.Collected.{KeepsFirstOf, those_named}
use Rattle.jc_collector_answers.specs.declared.name_lines.NameLines.TheVariants.{MachinesAndUploads}
use Rattle.jc_command_args.specs.declared.request.Tables.{Tables}
use Rattle.jc_command_shared.specs.declared.failure.Failure.{Failure}
use Rattle.jc_database.specs.Files.{AreLawful, HoldsJournal, InFiles}
use Rattle.jc_database.specs.Left.{IsLeftOf}
use Rattle.jc_ledger.specs.declared.ledger.Ledger as ledgers
use Rattle.jc_ledger.specs.Kept.{NoneCollide}
use Rattle.jc_ledger.specs.Known.{Known}
use Rattle.jc_ledger.specs.Lagging.{MayCatchUp}
use Rattle.jc_ledger.specs.Union.{union}
use Rattle.jc_store.specs.Crash.{LeavesJournals}
use Rattle.jc_store.specs.Meaning.{AreMade, Meaning}
use Rattle.jc_upload.specs.declared.answer.Answer.{Answer}
use Rattle.jc_collector.specs.Kinds.{BeginsIn, meaning_of}
use Rattle.jc_collector.specs.UnionOpened.{FaultsOver}

-- What a crash left of the present database's files has a journal, in tables of this meaning. Its union with the finished
-- databases has what these answers to the first ones of some uploads acknowledge, over what was stored, and all of some of the
-- next ones, in order, none of which is acknowledged. Whatever the crash leaves of the notes, these and the journal may be caught
-- up: so no key is in both the finished databases and the present one.
pub record LeavesNoted (AreUploads : List (Option (List ℕ)) → Type 0) (m : Meaning) (past before : Journal) (came : LogEntry → Type 0) (ledgers : Known → Type 0) (answers : List Answer) (left : Image)
    : Type 0 where
  pub found : Journal
  pub keeps : KeepsFirstOf AreUploads (union past before) answers (union past found)
  pub lags : (known : Known) → ledgers known → MayCatchUp known past found came
  pub holds : HoldsJournal m left found

-- Files as a run leaves them: that their disks have returned what was written, and what a crash may leave of them.
pub record FilesLeft : Type 1 where
  pub clean : Type 0
  pub images : Image → Type 0

module _ {S C R : Type 0} (o : InFiles S C R) where
  -- A call that failed hands them back, and they are usual, if the files held this as they were opened.
  abbrev pub handed_back : (first : Image) → R → FilesLeft
  handed_back first files = record { clean = o.is_clean_left files × o.is_usual first files; images = o.may_be_left files }

-- So a database is left of a connection: a crash leaves a journal of it that it might have left of the connection.
pub record IsLeftAs (m : Meaning) {S : Type 0} (g : Ghosts S) (conn : Held S) (files : FilesLeft) : Type 0 where
  pub was_clean : files.clean → HasCleanDisk (state g conn)
  pub leaves : AreLawful m → AreMade m g conn → LeavesJournals m g conn → files.clean → (image : Image) → files.images image → IsLeftOf m g conn image

-- How answers were printed of which something holds.
abbrev pub HowPrinted : Type 1
HowPrinted = (Holds : List Answer → Type 0) → Type 0

-- What a run left that failed so once its present database was open. If the disks returned what was written, the files had a
-- journal when it began, or none, and this is so of the notes beside it: a fault is that of an entry over the limits. Whatever
-- a crash leaves of the files and of the notes has what the answers acknowledge whose lines were printed. They were given to the
-- first ones of the uploads that a text names.
abbrev pub UnionIsLeft : {N : Type 0} → ledgers.Ghosts N → (made : Tables) → (first : Image) → (told : List ℕ → Option (List ℕ)) → (past : Journal)
    → (Noted : Journal → Type 0) → (text : Option (List ℕ)) → (Prints : HowPrinted) → Failure → FilesLeft → (notes : N) → Type 0
UnionIsLeft n made first told past Noted text Prints failure files notes =
    files.clean → n.clean notes → NoneCollide (n.came notes)
    → (kind : Tables) (before : Journal) → BeginsIn made kind first before → Noted before
    → FaultsOver before failure
    × Prints (λ answers. (image : Image) → files.images image
    → ∥ LeavesNoted (those_named told MachinesAndUploads text) (meaning_of kind) past before (n.came notes) (n.may_leave notes) answers image ∥₁)
