-- Answers that are counted, as what is printed of so many uploads, or of the lines of a text.
use Rattle.std.proofs.Common.{◌≡◌, ℕ, List, Option, Result, Ok, Err, length, refl, subst, ◌∙◌}
use Rattle.std.specs.Prelude.{IfOk, IfSome, ⊤}
use Rattle.jc_base.specs.Journal.{Journal}
use Rattle.jc_collect.specs.Run.{OnlyIfOwned}
use Rattle.jc_keeper.specs.declared.keeper.Keeper as keepers
use Rattle.jc_collector_answers.specs.Answered.{PrintsAnswers}
use Rattle.jc_collector_answers.specs.Collected.{HoldsFirstOf, just}
use Rattle.jc_collector_answers.specs.Tied.{NamedWith, PrintsFront, PrintsWith}
use Rattle.jc_command_shared.specs.Lines.{lines_of}
use Rattle.jc_command_shared.specs.declared.failure.Failure.{Failure}
use Rattle.jc_command_shared.specs.declared.status.Status.{Status}
use Rattle.jc_upload.specs.declared.answer.Answer.{Answer}
use Rattle.jc_collector.specs.Counted.{PrintsCounted, StoresCounted}
use Rattle.jc_collector_answers.specs.Kept.{AnswersHold, HoldsPrinted, Printing, held_by}
use Rattle.jc_collector.specs.OverFiles.{StoresPrinted}
use Rattle.jc_collector_answers.specs.PrintedLaws.{front_other, with_other}

-- ---- so many

-- as many as there are, by whatever else their number is
pub counted_with : (count : ℕ) (Holds : List Answer → Type 0) (status : Status) (old new : Option (List ℕ))
    → PrintsCounted (λ n. n ≡ count) Holds status old new → PrintsWith Holds count status old new
counted_with count Holds status old new it = subst (λ (n : ℕ). PrintsWith Holds n status old new) it.counts it.answers

pub counted_printed : (count other : ℕ) → count ≡ other → (status : Status) (old new : Option (List ℕ))
    → PrintsCounted (λ n. n ≡ count) (λ _. ⊤) status old new → PrintsAnswers other status old new
counted_printed count other same status old new it =
    subst (λ (n : ℕ). PrintsAnswers n status old new) (it.counts ∙ same) it.answers.shown

pub counted_stored : (count other : ℕ) → count ≡ other → (uploads named : List (Option (List ℕ))) → uploads ≡ named → (status : Status) (old new : Option (List ℕ))
    (before after : Journal) → StoresCounted (λ n. n ≡ count) (just uploads) status old new before after
    → StoresPrinted (just named) other status old new before after
counted_stored count other same uploads named are status old new before after it =
    subst (λ (us : List (Option (List ℕ))). StoresPrinted (just us) other status old new before after) are
    (subst (λ (n : ℕ). StoresPrinted (just uploads) n status old new before after) (it.counts ∙ same) it.answers)

pub with_counted : (count : ℕ) (Holds : List Answer → Type 0) (status : Status) (old new : Option (List ℕ))
    → PrintsWith Holds count status old new → PrintsCounted (λ n. n ≡ count) Holds status old new
with_counted count Holds status old new it = record { count = count; counts = refl; answers = it }

-- ---- one for each line of a text

pub counted_named : (text : Option (List ℕ)) (Holds : List Answer → Type 0) (status : Status) (old new : Option (List ℕ))
    → PrintsCounted (λ n. IfSome text (λ known. n ≡ length (lines_of known))) Holds status old new → NamedWith Holds text status old new
counted_named text Holds status old new it = record {
  shown = record { count = it.count; each = it.counts; printed = it.answers.shown };
  holds = it.answers.holds;
}

pub named_counted : (text : Option (List ℕ)) (Holds : List Answer → Type 0) (status : Status) (old new : Option (List ℕ))
    → NamedWith Holds text status old new → PrintsCounted (λ n. IfSome text (λ known. n ≡ length (lines_of known))) Holds status old new
named_counted text Holds status old new it = record {
  count = it.shown.count;
  counts = it.shown.each;
  answers = record { shown = it.shown.printed; holds = it.holds };
}

-- ---- what holds of answers holds of others too

module _ (Counts : ℕ → Type 0) (First Other : List Answer → Type 0) (each : (answers : List Answer) → First answers → Other answers)
    (old new : Option (List ℕ))
  where
    pub counted_other : (status : Status) → PrintsCounted Counts First status old new → PrintsCounted Counts Other status old new
    counted_other status it =
        record { count = it.count; counts = it.counts; answers = with_other First Other each it.count status old new it.answers }

    pub printed_other : (result : Result Status Failure) → HoldsPrinted (PrintsCounted Counts) First result old new
        → HoldsPrinted (PrintsCounted Counts) Other result old new
    printed_other (Ok status) it = counted_other status it
    printed_other (Err failure) it = front_other First Other each old new it

-- ---- printed in another way

module _ (Whole Other : Printing) (Holds : List Answer → Type 0) (old new : Option (List ℕ))
    (into : (status : Status) → Whole Holds status old new → Other Holds status old new)
  where
    pub printed_as : (result : Result Status Failure) → HoldsPrinted Whole Holds result old new → HoldsPrinted Other Holds result old new
    printed_as (Ok status) it = into status it
    printed_as (Err failure) it = it

-- of any keeper
pub hold_as : {K : Type 0} {AreUploads : List (Option (List ℕ)) → Type 0} (k : keepers.Ghosts K) (Whole Other : Printing) (old new : K) (result : Result Status Failure) (printed now : Option (List ℕ))
    → ((Holds : List Answer → Type 0) (status : Status) → Whole Holds status printed now → Other Holds status printed now)
    → AnswersHold k Whole AreUploads old new result printed now → AnswersHold k Other AreUploads old new result printed now
hold_as {AreUploads = AreUploads} k Whole Other old new result printed now into it = record {
  each = λ clean made. printed_as Whole Other (HoldsFirstOf AreUploads (held_by k old) (held_by k new)) printed now (into (HoldsFirstOf AreUploads (held_by k old) (held_by k new))) result (it.each clean made);
  owner = printed_as Whole Other (OnlyIfOwned k.has_owners) printed now (into (OnlyIfOwned k.has_owners)) result it.owner;
}

-- ---- by what came of them

module _ (Whole : Printing) (Holds : List Answer → Type 0) (old new : Option (List ℕ)) where
  -- What was printed stays printed when something behind it fails.
  pub printed_behind : ((status : Status) → Whole Holds status old new → PrintsFront Holds old new) → (done answered : Result Status Failure)
      → IfOk done (λ status. answered ≡ Ok status) → HoldsPrinted Whole Holds answered old new → HoldsPrinted Whole Holds done old new
  printed_behind front (Ok status) answered is it = subst (λ (r : Result Status Failure). HoldsPrinted Whole Holds r old new) is it
  printed_behind front (Err failure) (Ok status) is it = front status it
  printed_behind front (Err failure) (Err other) is it = it
