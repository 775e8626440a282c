-- The answers of a run over a database that it has open.
use Rattle.std.proofs.Common.{◌≡◌, ℕ, zero, suc, ◌≤◌, ◌-◌, List, [], ◌∷◌, Option, Result, Ok, Err, length, take, sym, subst, subst₂, ◌∙◌, append-nil, arith}
use Rattle.std.specs.Prelude.{IfOk, IfErr, OnOk}
use Rattle.std.specs.Io.KnownBytes.{Appends}
use Rattle.std.proofs.lemmas.List.{length-append, take_all}
use Rattle.sqlite.specs.Store.{Ghosts}
use Rattle.sqlite.specs.Recovery.{Image}
use Rattle.sqlite.specs.State.{HasCleanDisk}
use Rattle.sqlite.specs.Held.{Held, state}
use Rattle.jc_base.specs.Journal.{Journal}
use Rattle.jc_collect.specs.Crash.{KeepsAcknowledged}
use Rattle.jc_collect.specs.Each.{held}
use Rattle.jc_collect.specs.Run.{lines_of_answers}
use Rattle.jc_collector_answers.specs.Answered.{KeepsFirst, KeepsPrinted}
use Rattle.jc_collector_answers.specs.Collected.{HoldsFirstOf, StoresFirstOf}
use Rattle.jc_collector_answers.specs.CollectedLaws.{keeps_first, stores_first}
use Rattle.jc_collector_answers.specs.Tied.{NamedWith, PrintsFront}
use Rattle.jc_command_shared.specs.declared.failure.Failure.{Failure}
use Rattle.jc_command_shared.specs.declared.status.Status.{Status}
use Rattle.jc_command_args.specs.declared.request.Tables.{Tables}
use Rattle.jc_database.specs.Files.{InFiles, Keeps, KeepsAlways}
use Rattle.jc_store.specs.Crash.{LeavesNoMore, MayLeave}
use Rattle.jc_store.specs.Meaning.{AreMade, IsSound, KeepsJournal, Meaning, journal_of}
use Rattle.jc_upload.specs.Answer.{answer_text}
use Rattle.jc_upload.specs.declared.answer.Answer.{Answer}
use Rattle.jc_collector.specs.AnsweredOver.{AnswersIn}
use Rattle.jc_collector.specs.Counted.{PrintsCounted, StoresCounted}
use Rattle.jc_collector_answers.specs.Kept.{HoldsPrinted}
use Rattle.jc_collector.specs.Open.{HasKind, HoldsIn, HoldsOpen}
use Rattle.jc_collector.specs.Kinds.{LeadsIn, OpenedOver, conn_of, journal_in, kind_of, meaning_of}
use Rattle.jc_collector.proofs.Counted.{counted_other}
use Rattle.jc_collector.proofs.Found.{leads_kind}

-- ---- what is printed

-- all lines are a front of them
front_of_all : (H : List Answer → Type 0) (answers : List Answer) (old new : Option (List ℕ)) → Appends old new (lines_of_answers answers)
    → H answers → PrintsFront H old new
front_of_all H answers old new printed holds = record {
  answers = answers;
  more = [];
  few = omega arith;
  bytes = 0;
  printed = subst (λ (l : List ℕ). Appends old new l) (sym (append-nil (lines_of_answers answers))) printed;
  holds = subst H (sym (append-nil answers)) holds;
}

pub front_counted : (Counts : ℕ → Type 0) (H : List Answer → Type 0) (old new : Option (List ℕ)) (status : Status)
    → PrintsCounted Counts H status old new → PrintsFront H old new
front_counted Counts H old new status p = front_of_all H p.answers.shown.answers old new p.answers.shown.printed p.answers.holds

pub front_named : (H : List Answer → Type 0) (text : Option (List ℕ)) (old new : Option (List ℕ)) (status : Status)
    → NamedWith H text status old new → PrintsFront H old new
front_named H text old new status p = front_of_all H p.shown.printed.answers old new p.shown.printed.printed p.holds

-- a value that was passed on
pub on_ok_of_other : {T E : Type 0} (done answered : Result T E) (P : Type 0) → IfOk done (λ x. answered ≡ Ok x) → OnOk answered P → OnOk done P
on_ok_of_other (Ok x) answered P is p = subst (λ r. OnOk r P) is p
on_ok_of_other (Err e) answered P is p = tt

pub on_ok_each : {T E : Type 0} (r : Result T E) (P Q : Type 0) → (P → Q) → OnOk r P → OnOk r Q
on_ok_each (Ok x) P Q each p = each p
on_ok_each (Err e) P Q each p = tt

-- a failure of something behind, or one that was passed on
pub failed_before : {T E : Type 0} (done answered : Result T E) (e : E) (P : Type 0) → IfErr answered (λ failure. done ≡ Err failure)
    → OnOk answered P → (answered ≡ Err e → P) → done ≡ Err e → P
failed_before done (Ok x) e P on p first is = p
failed_before done (Err failure) e P on p first is = first (sym on ∙ is)

-- ---- the first ones are all

lines_within : (answers : List Answer) (n : ℕ) → length (lines_of_answers (take n answers)) ≤ length (lines_of_answers answers)
lines_within [] zero = omega arith
lines_within [] (suc n) = omega arith
lines_within (first ∷ rest) zero = omega arith
lines_within (first ∷ rest) (suc n) =
    omega
    (arith, lines_within rest n, length-append (answer_text first) (lines_of_answers (take n rest)), length-append (answer_text first) (lines_of_answers rest))

pub all_first : (uploads : List (List ℕ)) (before : Journal) (old new : Option (List ℕ)) (found : Journal)
    → KeepsPrinted uploads before old new found → KeepsFirst uploads before old new found
all_first uploads before old new found p =
    let lines = lines_of_answers p.answers in record {
      limits = p.limits;
      defaults = p.defaults;
      done = length uploads;
      within = omega arith;
      answers = p.answers;
      keeps = subst (λ (us : List (List ℕ)). KeepsAcknowledged p.limits before us p.answers found)
          (sym (take_all (length uploads) uploads (omega arith))) p.keeps;
      shown = length lines;
      whole_before = lines_within p.answers (length uploads - 1);
      printed = subst (λ (l : List ℕ). Appends old new l) (sym (take_all (length lines) lines (omega arith))) p.printed;
    }

-- ---- over a connection

-- what its disks have returned later was what was written, and so it was before
pub clean_before : {before later : ℕ} → before ≤ later → later ≡ 0 → before ≡ 0
clean_before less clean = omega (arith, less, clean)

module _ {S : Type 0} {g : Ghosts S} (m : Meaning) (first then last : Held S) (before : Journal) (sound : IsSound g first)
    (has : Keeps m g first before) (durable : (found : Journal) → MayLeave m g first found → found ≡ journal_of m g first)
    (made : AreMade m g then)
    (back : IsSound g last → IsSound g then) (keeps : KeepsJournal m g then last)
    (less : LeavesNoMore (state g then) (state g last)) (clean : HasCleanDisk (state g last))
  where
    pub less_left : (found : Journal) → MayLeave m g last found → MayLeave m g then found
    less_left found may = record { trees = may.trees; left = less clean may.trees may.left; is = may.is }

    pub holds_open : (AreUploads : List (Option (List ℕ)) → Type 0) (answers : List Answer)
        → HoldsFirstOf AreUploads (held (journal_of m g first) (IsSound g first) (MayLeave m g first))
        (held (journal_of m g then) (IsSound g then) (MayLeave m g then)) answers
        → HoldsOpen m g last AreUploads before answers
    holds_open AreUploads answers h =
        let was = held (journal_of m g first) (IsSound g first) (MayLeave m g first) in
        let now = held (journal_of m g then) (IsSound g then) (MayLeave m g then) in
        record {
          stored = λ late. let early = back late in
              subst₂ (λ (b a : Journal). StoresFirstOf AreUploads b answers a) has.is (sym (keeps.same early made late))
              (stores_first AreUploads was now answers h early);
          found = λ found may.
              keeps_first AreUploads was now answers h before found (λ there. durable found there ∙ has.is) has.is (less_left found may);
        }

-- ---- once it is closed

module _ {S C L : Type 0} {g : Ghosts S} {o : InFiles S C L} (made : Tables) (image : Image) (opened : OpenedOver S) (files : C)
    (sound : o.clean files → IsSound g (conn_of opened))
    (always : o.clean files → AreMade (meaning_of (kind_of opened)) g (conn_of opened)
    → KeepsAlways (meaning_of (kind_of opened)) o files (journal_in g opened))
    (kind : HasKind g opened made image)
    (status : Status) (old new : Option (List ℕ)) (done : Result Status Failure) (is : done ≡ Ok status)
  where
    pub leads_counted : (Counts : ℕ → Type 0) (AreUploads : List (Option (List ℕ)) → Type 0)
        → AnswersIn g opened made image (PrintsCounted Counts) AreUploads done old new
        → LeadsIn made image o files (StoresCounted Counts AreUploads status old new)
    leads_counted Counts AreUploads it = leads_kind made image opened kind files sound (StoresCounted Counts AreUploads status old new)
        (λ clean before begin.
        let late = sound clean in
        let printed = subst (λ (r : Result Status Failure). HoldsPrinted (PrintsCounted Counts) (HoldsIn g opened AreUploads before) r old new) is
        (it.each late.clean before begin) in record {
          found = journal_in g opened;
          is = counted_other Counts (HoldsIn g opened AreUploads before) (λ answers. StoresFirstOf AreUploads before answers (journal_in g opened))
              (λ answers h. h.stored late) old new status printed;
          keeps = always clean (it.recovers late.clean before begin).made;
        })
