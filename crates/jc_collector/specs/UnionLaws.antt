-- What was answered over a union, and what a crash leaves of it. (own)
use Rattle.std.proofs.Common.{◌≡◌, ℕ, List, [], Option, ap, ◌∙◌, inl, inr, refl, subst, sym}
use Rattle.jc_base.specs.declared.id.Key.{Key}
use Rattle.jc_base.specs.Journal.{Journal}
use Rattle.jc_base.specs.LogEntry.{LogEntry}
use Rattle.jc_collect.specs.Each.{held}
use Rattle.jc_collector_answers.specs.Collected.{HoldsFirstOf, StoresFirstOf}
use Rattle.jc_collector_answers.specs.CollectedLaws.{keeps_first, keeps_nothing, stores_first, stores_nothing}
use Rattle.jc_keeper.specs.declared.keeper.KeepStop.TheVariants as keep
use Rattle.jc_ledger.specs.Kept.{ComesToo, IsKept}
use Rattle.jc_ledger.specs.Known.{Known}
use Rattle.jc_ledger.specs.Lagging.{LeaveLagging, MayCatchUp}
use Rattle.jc_ledger.specs.Union.{union}
use Rattle.jc_upload.specs.declared.answer.Answer.{Answer}
use Rattle.jc_collector.specs.declared.into_union.opening.OpenStop.{OpenStop}
use Rattle.jc_collector.specs.declared.into_union.opening.OpenStop.TheVariants as stop
use Rattle.jc_collector.specs.Noted.{HoldsNoted, WhyNoUnion, failure_of}
use Rattle.jc_collector.specs.UnionOpened.{FaultsOver, MayStop}

-- whatever stops an opening, a command can say so
pub no_union : (why : OpenStop) → WhyNoUnion (failure_of why)
no_union (stop.Stopped keep.OutOfMemory) = tt
no_union (stop.Stopped keep.StoreFailed) = tt
no_union (stop.Stopped keep.ReadFailed) = tt
no_union (stop.Differs index) = tt
no_union (stop.Faulty fault) = tt

-- ... and if it may stop it, the fault is that of an entry over the limits
pub faults_over : (journal : Journal) (why : OpenStop) → MayStop journal why → FaultsOver journal (failure_of why)
faults_over journal (stop.Stopped keep.OutOfMemory) may = tt
faults_over journal (stop.Stopped keep.StoreFailed) may = tt
faults_over journal (stop.Stopped keep.ReadFailed) may = tt
faults_over journal (stop.Differs index) may = absurd may
faults_over journal (stop.Faulty fault) may = may

-- what is known alike lags alike
pub alike : {known : Known} {past now : Journal} {came : LogEntry → Type 0} → MayCatchUp known past now came → (found : Known) → ((k : Key) → found k ≡ known k)
    → {later : LogEntry → Type 0} → ComesToo came later → MayCatchUp found past now later
alike lag found same comes = record {
  noted = lag.noted;
  kept = record { noted = λ k key. same k ∙ lag.kept.noted k key; apart = lag.kept.apart; have_come = λ e stored. comes e (lag.kept.have_come e stored) };
  lags = lag.lags;
}

-- a union that wasn't opened: nothing is answered
pub holds_nothing : (AreUploads : List (Option (List ℕ)) → Type 0) (uploads : List (Option (List ℕ))) → AreUploads uploads → (past before after : Journal) (Sound : Type 0) (known : Known) (came : LogEntry → Type 0) (databases : Journal → Type 0) (ledgers : Known → Type 0)
    → (Sound → after ≡ before) → ((found : Journal) → databases found → found ≡ before) → LeaveLagging databases ledgers past came
    → HoldsNoted AreUploads past before after Sound known came databases ledgers []
holds_nothing AreUploads uploads are past before after Sound known came databases ledgers same left lags = record {
  stored = λ late. stores_nothing AreUploads uploads are (union past before) (union past after) (ap (union past) (same late));
  noted = λ late. inl tt;
  found = λ found is. keeps_nothing AreUploads uploads are (union past before) (union past found) (ap (union past) (left found is));
  lags = lags;
}

-- one that was opened: what waited was noted, and something was done with the present database behind the answers
module _ (AreUploads : List (Option (List ℕ)) → Type 0) (past before first after later : Journal) (Was Sound Late : Type 0) (known : Known) (came : LogEntry → Type 0) (had databases less : Journal → Type 0)
    (ledgers : Known → Type 0) (same : first ≡ before) (left : (found : Journal) → had found → found ≡ before)
    (kept : Late → IsKept known past later came) (lags : LeaveLagging less ledgers past came)
    (back : Late → Sound) (stays : Late → later ≡ after) (fewer : (found : Journal) → less found → databases found)
  where
    pub holds_through : (answers : List Answer)
        → HoldsFirstOf AreUploads (held (union past first) Was (λ (found : Journal). (j : Journal) × (had j × (found ≡ union past j))))
        (held (union past after) Sound (λ (found : Journal). (j : Journal) × (databases j × (found ≡ union past j)))) answers
        → HoldsNoted AreUploads past before later Late known came less ledgers answers
    holds_through answers h =
        let was = held (union past first) Was (λ (found : Journal). (j : Journal) × (had j × (found ≡ union past j))) in
        let now = held (union past after) Sound (λ (found : Journal). (j : Journal) × (databases j × (found ≡ union past j))) in
        record {
          stored = λ late. subst (λ (m : Journal). StoresFirstOf AreUploads (union past before) answers (union past m)) (sym (stays late))
              (subst (λ (b : Journal). StoresFirstOf AreUploads (union past b) answers (union past after)) same (stores_first AreUploads was now answers h (back late)));
          noted = λ late. inr (kept late);
          found = λ found is.
              keeps_first AreUploads was now answers h (union past before) (union past found)
              (λ there. there.1.1 ∙ ap (union past) (left there.0 there.1.0)) (ap (union past) same) (found, (fewer found is, refl));
          lags = lags;
        }
