-- What a run that is stopped leaves of a database's files, and what the next one finds. (own)
use Rattle.std.specs.Prelude.{◌≡◌, ℕ, List, Option, Some, map}
use Rattle.sqlite.specs.Store.{Ghosts}
use Rattle.sqlite.specs.Recovery.{Image}
use Rattle.sqlite.specs.View.{IsClean}
use Rattle.sqlite.specs.State.{HasCleanDisk}
use Rattle.sqlite.specs.Held.{state}
use Rattle.jc_base.specs.Journal.{Journal}
use Rattle.jc_collector_answers.specs.Answered.{KeepsFirst, KeepsPrinted}
use Rattle.jc_collector_answers.specs.Collected.{KeepsFirstOf}
use Rattle.jc_upload.specs.declared.answer.Answer.{Answer}
use Rattle.jc_command_args.specs.declared.request.Tables.{Tables}
use Rattle.jc_database.specs.Files.{HoldsJournal, InFiles}
use Rattle.jc_collector.specs.Kinds.{BeginsIn, OpenedOver, conn_of, journal_in, meaning_of}

-- What is said of a run that is stopped: if its disks returned what was written, and the files had this journal when it
-- began, in tables of this kind, or none, then this holds of that journal.
abbrev pub WhenBegun : {S : Type 0} → Ghosts S → (made : Tables) → (first : Image) → (stopped : S)
    → ((kind : Tables) → Journal → Type 0) → Type 0
WhenBegun g made first stopped Says =
    IsClean (g.view stopped) → (kind : Tables) (before : Journal) → BeginsIn made kind first before → Says kind before

-- Whatever a crash leaves of its files is such an image.
abbrev pub AnyLeft : {S C L : Type 0} → InFiles S C L → (stopped : S) → (Image → Type 0) → Type 0
AnyLeft o stopped Is = (left : Image) → o.may_leave stopped left → ∥ Is left ∥₁

-- What the next run finds, if its disks returned what was written: a journal with what these answers acknowledge, over what
-- was stored, or all of some more, in order. `opened` is its keeper.
abbrev pub FindsEach : {S : Type 0} → Ghosts S → (AreUploads : List (Option (List ℕ)) → Type 0) → (before : Journal) → List Answer → (opened : OpenedOver S) → Type 0
FindsEach g AreUploads before answers opened =
    HasCleanDisk (state g (conn_of opened)) → ∥ KeepsFirstOf AreUploads before answers (journal_in g opened) ∥₁

-- What is said of a run over uploads that is stopped: if its disks returned what was written, the files had this journal when
-- it began, or none, and the uploads have these bytes, then this holds of whatever a crash leaves of the files.
abbrev pub WhenStopped : {S C L : Type 0} → Ghosts S → InFiles S C L → (made : Tables) → (first : Image)
    → (known : List (Option (List ℕ))) → (stopped : S) → ((kind : Tables) → (uploads : List (List ℕ)) → (before : Journal) → (left : Image) → Type 0) → Type 0
WhenStopped g o made first known stopped Leaves =
    IsClean (g.view stopped) → (kind : Tables) (before : Journal) → BeginsIn made kind first before
    → (uploads : List (List ℕ)) → known ≡ map (λ u. Some u) uploads
    → (left : Image) → o.may_leave stopped left → Leaves kind uploads before left

-- What a crash left of the files has a journal: what was stored, each upload whose acknowledgement was printed, and all of
-- one more at most.
pub record LeavesPrinted (kind : Tables) (uploads : List (List ℕ)) (before : Journal) (old new : Option (List ℕ)) (left : Image) : Type 0 where
  pub found : Journal
  pub keeps : KeepsPrinted uploads before old new found
  pub holds : HoldsJournal (meaning_of kind) left found

-- The same if printing failed: the first ones of the uploads were collected, and the lines of their answers were printed, of
-- the last one's a front.
pub record LeavesFirst (kind : Tables) (uploads : List (List ℕ)) (before : Journal) (old new : Option (List ℕ)) (left : Image) : Type 0 where
  pub found : Journal
  pub keeps : KeepsFirst uploads before old new found
  pub holds : HoldsJournal (meaning_of kind) left found
