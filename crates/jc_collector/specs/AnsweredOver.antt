-- What a run leaves of a database that it has open, once it has answered its uploads. (own)
use Rattle.std.specs.Prelude.{◌≡◌, ℕ, List, Option, Result, Err, OnOk}
use Rattle.sqlite.specs.Store.{Ghosts}
use Rattle.sqlite.specs.Recovery.{Image}
use Rattle.sqlite.specs.Held.{Held}
use Rattle.jc_base.specs.Journal.{Journal}
use Rattle.jc_collector_answers.specs.Answered.{KeepsFirst, KeepsPrinted}
use Rattle.jc_command_args.specs.declared.request.Tables.{Tables}
use Rattle.jc_command_shared.specs.declared.failure.Failure.{Failure}
use Rattle.jc_command_shared.specs.declared.failure.Failure.TheVariants.{WriteFailed}
use Rattle.jc_command_shared.specs.declared.status.Status.{Status}
use Rattle.jc_store.specs.Meaning.{Meaning}
use Rattle.jc_collector_answers.specs.Kept.{HoldsPrinted, Printing}
use Rattle.jc_collector.specs.Kinds.{BeginsIn, OpenedOver, conn_of, kind_of, meaning_of}
use Rattle.jc_collector.specs.Open.{HoldsOpen, LeavesOpen, Recovers, StandsOver, WhileClean}
use Rattle.jc_collector.specs.OverFiles.{CollectsAll, KeepsStored}

module _ (m : Meaning) {S : Type 0} (g : Ghosts S) (now : Held S) (Begins : Journal → Type 0) where
  -- What is said whether the uploads' bytes are known or not: nothing that was stored is lost. The printed lines are the answers
  -- to these uploads. What they acknowledge is stored, and found after a crash, of those that were printed before a failure
  -- too. Whatever a crash leaves is a journal.
  pub record AnswersOver (Whole : Printing) (AreUploads : List (Option (List ℕ)) → Type 0) (done : Result Status Failure) (old new : Option (List ℕ))
      : Type 0 where
    pub kept : StandsOver m g now Begins KeepsStored
    pub each : WhileClean g now Begins (λ before. HoldsPrinted Whole (HoldsOpen m g now AreUploads before) done old new)
    pub recovers : WhileClean g now Begins (λ _. Recovers m g now)

  -- What becomes of uploads with these bytes, and what a crash leaves of them.
  pub record CollectsOver (uploads : List (List ℕ)) (done : Result Status Failure) (old new : Option (List ℕ)) : Type 0 where
    pub collected : OnOk done (StandsOver m g now Begins (CollectsAll uploads old new))
    pub crash : WhileClean g now Begins (LeavesOpen m g now (λ before found. OnOk done (KeepsPrinted uploads before old new found)))
    pub crash_unprinted : WhileClean g now Begins (LeavesOpen m g now (λ before found.
        done ≡ Err WriteFailed → KeepsFirst uploads before old new found))

-- ---- the same of a keeper over tables of either kind, for each journal that the files may have had in tables of its kind

module _ {S : Type 0} (g : Ghosts S) (opened : OpenedOver S) (made : Tables) (image : Image) where
  abbrev pub AnswersIn : Printing → (AreUploads : List (Option (List ℕ)) → Type 0) → (done : Result Status Failure) → (old new : Option (List ℕ)) → Type 0
  AnswersIn Whole AreUploads done old new =
      AnswersOver (meaning_of (kind_of opened)) g (conn_of opened) (BeginsIn made (kind_of opened) image) Whole AreUploads done old new

  abbrev pub CollectsIn : (uploads : List (List ℕ)) → (done : Result Status Failure) → (old new : Option (List ℕ)) → Type 0
  CollectsIn uploads done old new =
      CollectsOver (meaning_of (kind_of opened)) g (conn_of opened) (BeginsIn made (kind_of opened) image) uploads done old new
