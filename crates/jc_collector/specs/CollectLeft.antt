-- What a run over one database leaves of its files that was stopped, or failed. (own)
use Rattle.std.specs.Prelude.{◌⊎◌, ℕ, List, Option, IsSomeAnd}
use Rattle.std.specs.Io.KnownBytes.{Keeps}
use Rattle.sqlite.specs.Recovery.{Image}
use Rattle.jc_base.specs.Journal.{Journal}
use Rattle.jc_collector_answers.specs.Collected.{KeepsFirstOf, those_named}
use Rattle.jc_collector_answers.specs.Tied.{PrintsFront}
use Rattle.jc_collector_answers.specs.declared.name_lines.NameLines.TheVariants.{Uploads}
use Rattle.jc_command_args.specs.declared.request.Tables.{Tables}
use Rattle.jc_command_shared.specs.Deeds.{Deed}
use Rattle.jc_command_shared.specs.declared.failure.Failure.{Failure}
use Rattle.jc_database.specs.Files.{HoldsJournal, InFiles}
use Rattle.jc_upload.specs.declared.answer.Answer.{Answer}
use Rattle.jc_collector.specs.Kinds.{BeginsIn, meaning_of}
use Rattle.jc_collector.specs.OverFiles.{IsListed}
use Rattle.jc_collector.specs.UnionLeft.{FilesLeft, handed_back}
use Rattle.jc_collector.specs.Unopened.{IsLeftUnopened}

-- What a crash left of the files has a journal, in tables of this kind: what these answers to the first ones of some uploads
-- acknowledge, over what was stored, or all of some more of them, in order, none of which is acknowledged.
pub record LeavesEach (AreUploads : List (Option (List ℕ)) → Type 0) (kind : Tables) (before : Journal) (answers : List Answer) (left : Image) : Type 0 where
  pub found : Journal
  pub keeps : KeepsFirstOf AreUploads before answers found
  pub holds : HoldsJournal (meaning_of kind) left found

-- The uploads that the lines of a list name, by what is told of their files.
abbrev pub those_listed : (told : List ℕ → Option (List ℕ)) → (list : List ℕ) → (given : Option (List ℕ)) → List (Option (List ℕ)) → Type 0
those_listed told list given uploads = (text : Option (List ℕ)) × IsListed told list given text × those_named told Uploads text uploads

module _ (made : Tables) (first : Image) (AreUploads : List (Option (List ℕ)) → Type 0) (old new : Option (List ℕ)) where
  -- Of these uploads some lines were printed, perhaps the last in part. If the disks returned what was written, and the files had
  -- a journal when the run began, or none, then whatever a crash leaves of them has what the lines acknowledge.
  abbrev pub LeavesFront : FilesLeft → Type 0
  LeavesFront files =
      files.clean → (kind : Tables) (before : Journal) → BeginsIn made kind first before
      → PrintsFront (λ answers. (image : Image) → files.images image → ∥ LeavesEach AreUploads kind before answers image ∥₁) old new

-- What a run left that failed: its database wasn't opened, and nothing was printed; or what is left of the files is handed
-- back, and has what was printed.
abbrev pub CollectLeaves : {S C L : Type 0} → InFiles S C L → (made : Tables) → (database : List ℕ) → (first : Image) → (AreUploads : List (Option (List ℕ)) → Type 0)
    → (old new : Option (List ℕ)) → (deeds deeds_now : Option (List Deed)) → Failure → Option L → Type 0
CollectLeaves o made database first AreUploads old new deeds deeds_now failure left =
    (IsLeftUnopened o made database first failure deeds deeds_now left × Keeps old new)
    ⊎ IsSomeAnd left (λ files. LeavesFront made first AreUploads old new (handed_back o first files))
