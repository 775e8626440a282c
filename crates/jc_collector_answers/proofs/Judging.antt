-- The status of answers, one after the other.
use Rattle.std.proofs.Common.{◌≡◌, ◌∙◌, ℕ, suc, ◌||◌, Bool, true, false, List, [], ◌∷◌, length, map, refl, sym, ap, arith}
use Rattle.std.specs.Prelude.{if◌then◌else◌}
use Rattle.std.specs.List.{list_any}
use Rattle.jc_collect.specs.Answer.{is_failure, is_failure_code}
use Rattle.jc_upload.specs.Answer.{IsAnswer, answer_text}
use Rattle.jc_upload.specs.declared.answer.Answer.{Answer}
use Rattle.jc_upload.specs.declared.answer.Answer.TheVariants.{Ack, No}
use Rattle.jc_command_shared.specs.declared.status.Status.{Status}
use Rattle.jc_command_shared.specs.declared.status.Status.TheVariants.{Success, Refused, Failed}
use Rattle.jc_collector_answers.specs.Answered.{judged, refusal_status, status_with}
use Rattle.jc_command_shared.specs.Lines.{AreAnswers, lines_of}

-- the status behind further answers
abbrev pub with_all : Status → List Answer → Status
with_all before [] = before
with_all before (answer ∷ answers) = with_all (status_with before answer) answers

failed_stays : (answers : List Answer) → with_all Failed answers ≡ Failed
failed_stays [] = refl
failed_stays (Ack source start count new left ∷ answers) = failed_stays answers
failed_stays (No of code place ∷ answers) = failed_stays answers

abbrev unless_failed : Bool → Status
unless_failed failed = if failed then Failed else Refused

refused_first : (code : ℕ) (answers : List Answer) → with_all Refused answers ≡ unless_failed (list_any is_failure answers)
    → with_all (refusal_status code) answers ≡ unless_failed (is_failure_code code || list_any is_failure answers)
refused_first code answers behind = go (is_failure_code code) refl
  where
    go : (is : Bool) → is_failure_code code ≡ is
        → with_all (refusal_status code) answers ≡ unless_failed (is_failure_code code || list_any is_failure answers)
    go true e = rw e (failed_stays answers)
    go false e = rw e behind

refused_stays : (answers : List Answer) → with_all Refused answers ≡ unless_failed (list_any is_failure answers)
refused_stays [] = refl
refused_stays (Ack source start count new left ∷ answers) = refused_stays answers
refused_stays (No of code place ∷ answers) = refused_first code answers (refused_stays answers)

pub judged_all : (answers : List Answer) → with_all Success answers ≡ judged answers
judged_all [] = refl
judged_all (Ack source start count new left ∷ answers) = judged_all answers
judged_all (No of code place ∷ answers) = refused_first code answers (refused_stays answers)

-- ---- the lines of answers, taken one by one

-- What is left of a text that was the lines of these answers, and the status so far.
abbrev pub IsLeft : List Answer → Status → (rest : List ℕ) → Type 0
IsLeft answers status rest = (left : List Answer) × AreAnswers left rest × (with_all status left ≡ judged answers)

pub left_first : (text : List ℕ) (answers : List Answer) → AreAnswers answers text → IsLeft answers Success text
left_first text answers are = (answers, are, judged_all answers)

pub left_more : (rest line behind : List ℕ) (status next : Status) (answers : List Answer) → lines_of rest ≡ line ∷ lines_of behind
    → ((answer : Answer) → IsAnswer answer → line ≡ answer_text answer → next ≡ status_with status answer)
    → IsLeft answers status rest → IsLeft answers next behind
left_more rest line behind status next answers first judges ([], are, same) = absurd (no_line (sym first ∙ are.lines))
  where
    no_line : line ∷ lines_of behind ≡ [] → ⊥
    no_line e = cc
left_more rest line behind status next answers first judges (answer ∷ left, are, same) =
    let split : line ∷ lines_of behind ≡ answer_text answer ∷ map answer_text left = sym first ∙ are.lines in
    let is : line ≡ answer_text answer = cc split in
    let others : lines_of behind ≡ map answer_text left = cc split in (
      left,
      record { lines = others; each = λ k d below. are.each (suc k) d (omega (arith, below)) },
      ap (λ (s : Status). with_all s left) (judges answer (are.each 0 answer (omega arith)) is) ∙ same,
    )

pub left_none : (rest : List ℕ) (status : Status) (answers : List Answer) → length rest ≡ 0 → IsLeft answers status rest → status ≡ judged answers
unfolding lines_of
left_none [] status answers none ([], are, same) = same
left_none [] status answers none (answer ∷ left, are, same) = absurd (no_line are.lines)
  where
    no_line : [] ≡ answer_text answer ∷ map answer_text left → ⊥
    no_line e = cc
left_none (b ∷ rest) status answers none left = absurd (omega (arith, none))
