-- What a crash leaves of a run that is stopped, and what the next one finds.
use Rattle.std.proofs.Common.{◌≡◌, ℕ, List, Option, inl, subst, sym}
use Rattle.std.proofs.Math.Logic.{∥∥₁_map}
use Rattle.sqlite.specs.Store.{Ghosts}
use Rattle.sqlite.specs.Recovery.{Image}
use Rattle.sqlite.specs.View.{IsClean}
use Rattle.sqlite.specs.State.{HasCleanDisk}
use Rattle.sqlite.specs.Held.{Held, state}
use Rattle.jc_base.specs.Journal.{Journal}
use Rattle.jc_base.specs.LogEntry.{LogEntry}
use Rattle.jc_collector_answers.specs.Answered.{KeepsPrinted}
use Rattle.jc_collector_answers.specs.Collected.{KeepsFirstOf}
use Rattle.jc_command_args.specs.declared.request.Tables.{Tables}
use Rattle.jc_database.specs.Files.{HoldsJournal, InFiles}
use Rattle.jc_database.specs.Left.{IsLeftOf, StopsOnly}
use Rattle.jc_ledger.specs.Known.{Known}
use Rattle.jc_store.specs.Crash.{LeavesJournals, MayLeave}
use Rattle.jc_store.specs.Meaning.{Meaning}
use Rattle.jc_upload.specs.declared.answer.Answer.{Answer}
use Rattle.jc_collector.specs.Noted.{HoldsNoted}
use Rattle.jc_collector.specs.UnionLeft.{LeavesNoted}
use Rattle.jc_collector.specs.UnionLeftLaws.{leaves_noted}
use Rattle.jc_collector.specs.Open.{CleanIn, HoldsIn, IsFoundIn, RecoversIn}
use Rattle.jc_collector.specs.Kinds.{BeginsIn, OpenedOver, conn_of, journal_in, kind_of, meaning_of}
use Rattle.jc_collector.specs.CollectLeft.{LeavesEach}
use Rattle.jc_theorems.specs.Stopped.{AnyLeft, LeavesPrinted}

-- ---- once it is stopped

module _ {S C L : Type 0} {g : Ghosts S} (o : InFiles S C L) (made : Tables) (image : Image) (opened : OpenedOver S) (stopped : S)
    (clean : IsClean (g.view stopped) → HasCleanDisk (state g (conn_of opened)))
    (left : LeavesJournals (meaning_of (kind_of opened)) g (conn_of opened)
    → StopsOnly g o stopped (IsLeftOf (meaning_of (kind_of opened)) g (conn_of opened)))
    (recovers : CleanIn g opened made image (λ _. RecoversIn g opened))
  where
    pub left_each : (AreUploads : List (Option (List ℕ)) → Type 0) → IsClean (g.view stopped) → (before : Journal) → BeginsIn made (kind_of opened) image before → (answers : List Answer)
        → HoldsIn g opened AreUploads before answers → AnyLeft o stopped (LeavesEach AreUploads (kind_of opened) before answers)
    left_each AreUploads is before begin answers h image may =
        ∥∥₁_map (left (recovers (clean is) before begin).journals is image may)
        (λ it. record { found = it.0; keeps = h.found it.0 it.1; holds = it.2 })

-- ---- once a run over a union is stopped

module _ {S C L : Type 0} {g : Ghosts S} (o : InFiles S C L) {m : Meaning} {present : Held S} (stopped : S)
    {past before after : Journal} {Sound : Type 0} {known : Known} {came : LogEntry → Type 0} {ledgers : Known → Type 0}
    (left : (image : Image) → o.may_leave stopped image
    → ∥ ((found : Journal) × MayLeave m g present found × HoldsJournal m image found) ∥₁)
  where
    pub left_noted : (AreUploads : List (Option (List ℕ)) → Type 0) (answers : List Answer) → HoldsNoted AreUploads past before after Sound known came (MayLeave m g present) ledgers answers
        → AnyLeft o stopped (LeavesNoted AreUploads m past before came ledgers answers)
    left_noted AreUploads answers h image may = leaves_noted AreUploads answers image (left image may) h

-- ---- the next run

module _ {S : Type 0} {g : Ghosts S} (made : Tables) (image : Image) (opened : OpenedOver S)
    (found : IsFoundIn g made (kind_of opened) image (conn_of opened)) (clean : HasCleanDisk (state g (conn_of opened)))
  where
    found_is : (kind : Tables) (journal : Journal) → HoldsJournal (meaning_of kind) image journal → journal_in g opened ≡ journal
    found_is kind journal holds = ((found clean).1 kind journal (inl holds)).1.is

    pub found_again : (kind : Tables) (uploads : List (List ℕ)) (before : Journal) (old new : Option (List ℕ))
        → ∥ LeavesPrinted kind uploads before old new image ∥₁ → ∥ KeepsPrinted uploads before old new (journal_in g opened) ∥₁
    found_again kind uploads before old new left = ∥∥₁_map left
        (λ (it : LeavesPrinted kind uploads before old new image).
        subst (λ journal. KeepsPrinted uploads before old new journal) (sym (found_is kind it.found it.holds)) it.keeps)

    pub found_each : (AreUploads : List (Option (List ℕ)) → Type 0) (kind : Tables) (before : Journal) (answers : List Answer) → LeavesEach AreUploads kind before answers image
        → ∥ KeepsFirstOf AreUploads before answers (journal_in g opened) ∥₁
    found_each AreUploads kind before answers left =
        ∣ subst (λ (journal : Journal). KeepsFirstOf AreUploads before answers journal) (sym (found_is kind left.found left.holds)) left.keeps ∣₁
