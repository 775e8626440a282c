-- What is left of a run over one database that failed, by what was answered over it.
use Rattle.std.proofs.Common.{◌≡◌, inl, inr, ℕ, List, Option, None, Result, Ok, Err, refl, sym, subst₂}
use Rattle.std.proofs.KnownBytes.{Keeps-refl}
use Rattle.std.proofs.Math.Logic.{∥∥₁_map}
use Rattle.std.specs.Prelude.{IfErr, IsErrAnd}
use Rattle.std.specs.Io.KnownBytes.{Keeps}
use Rattle.sqlite.specs.Store.{Ghosts}
use Rattle.sqlite.specs.Recovery.{Image}
use Rattle.jc_collector_answers.specs.Kept.{HoldsPrinted}
use Rattle.jc_collector_answers.specs.Opened.{WhyUnopened}
use Rattle.jc_collector_answers.specs.PrintedLaws.{front_other}
use Rattle.jc_collector_answers.specs.Tied.{PrintsFront}
use Rattle.jc_command_args.specs.declared.request.Tables.{Tables}
use Rattle.jc_command_args.specs.declared.request.Tables.TheVariants.{ByKey, ByNumber}
use Rattle.jc_command_shared.specs.Deeds.{Deed}
use Rattle.jc_command_shared.specs.declared.failure.Failure.{Failure}
use Rattle.jc_command_shared.specs.declared.failure.Failure.TheVariants.{Bad}
use Rattle.jc_command_shared.specs.declared.status.Status.{Status}
use Rattle.jc_database.specs.Files.{AreLawful, InFiles}
use Rattle.jc_upload.specs.declared.answer.Answer.{Answer}
use Rattle.jc_collector.specs.AnsweredOver.{AnswersIn}
use Rattle.jc_collector.specs.CollectLeft.{CollectLeaves, LeavesEach, LeavesFront}
use Rattle.jc_collector.specs.Counted.{PrintsCounted}
use Rattle.jc_collector.specs.KindLaws.{at_kind}
use Rattle.jc_collector.specs.Kinds.{OpenedOver, conn_of, kind_of, meaning_of}
use Rattle.jc_collector.specs.Open.{HasKind, HoldsIn}
use Rattle.jc_collector.specs.UnionLeft.{FilesLeft, IsLeftAs}
use Rattle.jc_collector.specs.Unopened.{FaultsDatabase, IsLeftUnopened}
use Rattle.jc_collector.specs.declared.failed.FailedCommand.{FailedCommand}
use Rattle.jc_collector.specs.declared.unopened.Unopened.{Unopened}
use Rattle.jc_collector.proofs.Open.{front_counted}
use Rattle.jc_collector.proofs.Results.{some_each}

-- ---- before its database is open

module _ {S C L : Type 0} (o : InFiles S C L) (made : Tables) (database : List ℕ) (first : Image) (AreUploads : List (Option (List ℕ)) → Type 0)
    (old : Option (List ℕ)) (deeds : Option (List Deed)) (failed : FailedCommand L)
  where
    -- it isn't opened
    pub collect_unopened : (deeds_now : Option (List Deed)) (new : Option (List ℕ)) (unopened : Unopened L)
        → (failed.failure ≡ unopened.failure) × (failed.left ≡ unopened.left) → Keeps old new
        → IsLeftUnopened o made database first unopened.failure deeds deeds_now unopened.left → CollectLeaves o made database first AreUploads old new deeds deeds_now failed.failure failed.left
    collect_unopened deeds_now new unopened is kept left =
        inl (subst₂ (λ (w : Failure) (l : Option L). IsLeftUnopened o made database first w deeds deeds_now l) (sym is.0) (sym is.1) left, kept)

    -- no file of it is
    pub collect_early : (failure : Failure) → (failed.failure ≡ failure) × (failed.left ≡ None) → FaultsDatabase failure
        → CollectLeaves o made database first AreUploads old old deeds deeds failed.failure failed.left
    collect_early failure is fault =
        inl (
          subst₂ (λ (w : Failure) (l : Option L). IsLeftUnopened o made database first w deeds deeds l) (sym is.0) (sym is.1)
              (record { begins = tt; handed = inr (inl refl); fault = fault }),
          Keeps-refl old,
        )

-- the same of what `?` hands on
module _ {S C L T : Type 0} (o : InFiles S C L) (made : Tables) (database : List ℕ) (first : Image) (AreUploads : List (Option (List ℕ)) → Type 0)
    (old : Option (List ℕ)) (deeds : Option (List Deed))
  where
    pub unopened_err : (result : Result T (FailedCommand L)) (deeds_now : Option (List Deed)) (new : Option (List ℕ)) (unopened : Unopened L)
        → IsErrAnd result (λ failed. (failed.failure ≡ unopened.failure) × (failed.left ≡ unopened.left)) → Keeps old new
        → IsLeftUnopened o made database first unopened.failure deeds deeds_now unopened.left
        → IfErr result (λ failed. CollectLeaves o made database first AreUploads old new deeds deeds_now failed.failure failed.left)
    unopened_err (Ok x) deeds_now new unopened is kept left = tt
    unopened_err (Err failed) deeds_now new unopened is kept left =
        collect_unopened o made database first AreUploads old deeds failed deeds_now new unopened is kept left

    pub early_err : (result : Result T (FailedCommand L)) (failure : Failure) → IsErrAnd result (λ failed. (failed.failure ≡ failure) × (failed.left ≡ None))
        → FaultsDatabase failure → IfErr result (λ failed. CollectLeaves o made database first AreUploads old old deeds deeds failed.failure failed.left)
    early_err (Ok x) failure is fault = tt
    early_err (Err failed) failure is fault = collect_early o made database first AreUploads old deeds failed failure is fault

-- Why uploads aren't opened is no fault.
pub uploads_fault : (uploads : List (List ℕ)) (failure : Failure) → WhyUnopened uploads failure → FaultsDatabase failure
uploads_fault uploads (Bad fault) why = absurd why
uploads_fault uploads _ why = tt

-- ---- once it is open

lawful_kind : (kind : Tables) → AreLawful (meaning_of kind)
lawful_kind ByKey = λ db journal. journal.spells.sound
lawful_kind ByNumber = λ db journal. journal.sound

front_any : (Counts : ℕ → Type 0) (Holds : List Answer → Type 0) (old new : Option (List ℕ)) (done : Result Status Failure)
    → HoldsPrinted (PrintsCounted Counts) Holds done old new → PrintsFront Holds old new
front_any Counts Holds old new (Ok status) it = front_counted Counts Holds old new status it
front_any Counts Holds old new (Err failure) it = it

module _ {S : Type 0} {g : Ghosts S} (made : Tables) (image : Image) (opened : OpenedOver S) (kind : HasKind g opened made image)
    (files : FilesLeft) (left : IsLeftAs (meaning_of (kind_of opened)) g (conn_of opened) files)
    (done : Result Status Failure) (old new : Option (List ℕ))
  where
    pub leaves_front : (Counts : ℕ → Type 0) (AreUploads : List (Option (List ℕ)) → Type 0)
        → AnswersIn g opened made image (PrintsCounted Counts) AreUploads done old new → LeavesFront made image AreUploads old new files
    leaves_front Counts AreUploads it clean =
        let was = left.was_clean clean in
        at_kind g made image opened kind
        (λ (k : Tables) before. PrintsFront (λ answers. (left : Image) → files.images left → ∥ LeavesEach AreUploads k before answers left ∥₁) old new) was
        (λ before begin.
        let recovers = it.recovers was before begin in
        front_other (HoldsIn g opened AreUploads before)
        (λ answers. (left : Image) → files.images left → ∥ LeavesEach AreUploads (kind_of opened) before answers left ∥₁)
        (λ answers holds image may. ∥∥₁_map (left.leaves (lawful_kind (kind_of opened)) recovers.made recovers.journals clean image may)
        (λ found. record { found = found.0; keeps = holds.found found.0 found.1; holds = found.2 }))
        old new (front_any Counts (HoldsIn g opened AreUploads before) old new done (it.each was before begin)))

-- ---- of uploads that are told in other words

module _ {S C L : Type 0} (o : InFiles S C L) (made : Tables) (database : List ℕ) (first : Image) (Some Other : List (Option (List ℕ)) → Type 0)
    (each : (uploads : List (Option (List ℕ))) → Some uploads → Other uploads) (old new : Option (List ℕ)) (deeds deeds_now : Option (List Deed)) (failure : Failure) (left : Option L)
  where
    pub leaves_others : CollectLeaves o made database first Some old new deeds deeds_now failure left → CollectLeaves o made database first Other old new deeds deeds_now failure left
    leaves_others (inl early) = inl early
    leaves_others (inr some) = inr (some_each left _ _ some
        (λ files leaves clean kind before begin. front_other _ _
        (λ answers is image may. ∥∥₁_map (is image may)
        (λ (it : LeavesEach Some kind before answers image). record {
          found = it.found;
          keeps = record { known = it.keeps.known; others = it.keeps.others; are = each _ it.keeps.are; each = it.keeps.each; keeps = it.keeps.keeps };
          holds = it.holds;
        })) old new (leaves clean kind before begin)))
