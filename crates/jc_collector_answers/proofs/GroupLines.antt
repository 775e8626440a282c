-- The lines of answers that were given together.
use Rattle.std.proofs.Common.{◌≡◌, ◌∙◌, ◌+◌, ◌≤◌, ℕ, zero, suc, List, [], ◌∷◌, ◌++◌, Option, Some, Result, Ok, Err, drop, length, take, refl, sym, ap, ap₂, subst, arith}
use Rattle.std.specs.Prelude.{IsErr}
use Rattle.std.specs.Io.KnownBytes.{Appends, Keeps}
use Rattle.std.specs.List.{slice_get}
use Rattle.std.proofs.KnownBytes.{Appends-trans}
use Rattle.std.proofs.lemmas.Grind.{flat_map-append}
use Rattle.std.proofs.lemmas.List.{append-nil, append_assoc, length-append, take_all}
use Rattle.jc_collect.specs.Run as run
use Rattle.jc_collect.proofs.Lists.{none_not_some, some_same, take_more}
use Rattle.jc_command_shared.specs.OutputLaws.{Appends-kept}
use Rattle.jc_command_shared.specs.declared.status.Status.{Status}
use Rattle.jc_command_shared.specs.declared.status.Status.TheVariants.{Success}
use Rattle.jc_collector_answers.specs.Answered.{worse}
use Rattle.jc_collector_answers.specs.Grouped.{these}
use Rattle.jc_collector_answers.specs.Kept.{HoldsPrinted}
use Rattle.jc_collector_answers.specs.PrintedLaws.{many}
use Rattle.jc_collector_answers.specs.Tied.{IsAlone, PrintsFront, PrintsWith, most_together}
use Rattle.jc_collector_answers.proofs.Successive.{begins, prints_both}
use Rattle.jc_upload.specs.Answer.{answer_text}
use Rattle.jc_upload.specs.declared.answer.Answer.{Answer}

pub shown_none : (old : Option (List ℕ)) → PrintsWith (these []) 0 Success old old
unfolding begins
shown_none old = record { shown = (begins old old).1; holds = refl }

-- printing failed
pub failed_front : {F : Type 0} (count : ℕ) (Holds : List Answer → Type 0) (result : Result Status F) (old new : Option (List ℕ)) → IsErr result → PrintsFront Holds old new
    → HoldsPrinted (many count) Holds result old new
failed_front count Holds (Ok status) old new failed front = cc
failed_front count Holds (Err failure) old new failed front = front

-- a front of some bytes is one of more
front_of : (n : ℕ) (xs ys : List ℕ) → (m : ℕ) × (take n xs ≡ take m (xs ++ ys))
front_of zero xs ys = (0, refl)
front_of (suc n) [] ys = (0, refl)
front_of (suc n) (x ∷ xs) ys = let less = front_of n xs ys in (suc less.0, ap (λ (l : List ℕ). x ∷ l) less.1)

-- a front of the lines of some answers is one of more
front_with : (one behind : List Answer) (old new : Option (List ℕ)) → length (one ++ behind) ≤ most_together → PrintsFront (these one) old new
    → PrintsFront (these (one ++ behind)) old new
front_with one behind old new fewer front =
    let lines = run.lines_of_answers front.answers in
    let part = front_of front.bytes (run.lines_of_answers front.more) (run.lines_of_answers behind) in
    let size = ap length front.holds in
    let those = length-append front.answers front.more in
    let all = length-append one behind in
    let some = length-append front.more behind in
    record {
      answers = front.answers;
      more = front.more ++ behind;
      few = omega (arith, fewer, size, those, all, some);
      bytes = part.0;
      printed = subst (λ (l : List ℕ). Appends old new (lines ++ l))
          (part.1 ∙ ap (take part.0) (sym (flat_map-append answer_text front.more behind))) front.printed;
      holds = sym (append_assoc front.answers front.more behind) ∙ ap (λ (l : List Answer). l ++ behind) front.holds;
    }

-- ... and of what was printed before
front_behind : (first others : List Answer) (count : ℕ) (status : Status) (old mid new : Option (List ℕ)) → PrintsWith (these first) count status old mid
    → PrintsFront (these others) mid new → PrintsFront (these (first ++ others)) old new
front_behind first others count status old mid new prints front =
    let lines = run.lines_of_answers prints.shown.answers in
    let more = run.lines_of_answers front.answers in
    let part = take front.bytes (run.lines_of_answers front.more) in
    let both = flat_map-append answer_text prints.shown.answers front.answers in
    record {
      answers = prints.shown.answers ++ front.answers;
      more = front.more;
      few = front.few;
      bytes = front.bytes;
      printed = subst (λ (l : List ℕ). Appends old new l) (sym (append_assoc lines more part) ∙ ap (λ (l : List ℕ). l ++ part) (sym both))
          (Appends-trans old mid new lines (more ++ part) prints.shown.printed front.printed);
      holds = append_assoc prints.shown.answers front.answers front.more ∙ ap₂ (λ (xs ys : List Answer). xs ++ ys) prints.holds front.holds;
    }

split_at : (answers : List Answer) (i : ℕ) (a : Answer) → slice_get answers i ≡ Some a → answers ≡ take i answers ++ a ∷ drop (suc i) answers
split_at [] i a at = absurd (none_not_some a at)
split_at (x ∷ answers) zero a at = ap (λ (y : Answer). y ∷ answers) (some_same x a at)
split_at (x ∷ answers) (suc i) a at = ap (λ (l : List Answer). x ∷ l) (split_at answers i a at)

module _ (answers : List Answer) (i : ℕ) (status : Status) (old mid new : Option (List ℕ)) (prints : PrintsWith (these (take i answers)) i status old mid) where
  -- one line more
  pub these_on : (a : Answer) → slice_get answers i ≡ Some a → (more : Status) → PrintsWith (IsAlone a) 1 more mid new
      → PrintsWith (these (take (i + 1) answers)) (i + 1) (worse status more) old new
  unfolding prints_both
  these_on a at more one = record {
    shown = prints_both i 1 status more old mid new prints.shown one.shown;
    holds = ap₂ (λ (xs ys : List Answer). xs ++ ys) prints.holds one.holds ∙ sym (take_more answers i a at);
  }

  -- ... of which a front was printed
  pub these_up_to : (a : Answer) → slice_get answers i ≡ Some a → length answers ≤ most_together → PrintsFront (IsAlone a) mid new → PrintsFront (these answers) old new
  these_up_to a at fewer front =
      let split = split_at answers i a at in
      let size = ap length split in
      let both = length-append (take i answers) (a ∷ drop (suc i) answers) in
      subst (λ (l : List Answer). PrintsFront (these l) old new) (sym split)
      (front_behind (take i answers) (a ∷ drop (suc i) answers) i status old mid new prints
      (front_with (a ∷ []) (drop (suc i) answers) mid new (omega (arith, fewer, size, both)) front))

  -- all of them
  pub these_whole : length answers ≡ i → Keeps mid new → PrintsWith (these answers) (length answers) status old new
  these_whole all keeps = record {
    shown = record {
      answers = prints.shown.answers;
      each = prints.shown.each ∙ sym all;
      lawful = prints.shown.lawful;
      is = prints.shown.is;
      printed = Appends-kept old mid new (run.lines_of_answers prints.shown.answers) prints.shown.printed keeps;
    };
    holds = prints.holds ∙ take_all i answers (omega (arith, all));
  }

  -- ... though they didn't go out
  pub these_front : length answers ≡ i → Keeps mid new → PrintsFront (these answers) old new
  these_front all keeps =
      let lines = run.lines_of_answers prints.shown.answers in
      record {
        answers = prints.shown.answers;
        more = [];
        few = omega arith;
        bytes = 0;
        printed = subst (λ (l : List ℕ). Appends old new l) (sym (append-nil lines)) (Appends-kept old mid new lines prints.shown.printed keeps);
        holds = append-nil prints.shown.answers ∙ prints.holds ∙ take_all i answers (omega (arith, all));
      }
