-- What a crash leaves of a run through a sink, as the writer behind the sink shows it.
use Rattle.std.proofs.Common.{◌≡◌, ◌∙◌, ℕ, ◌+◌, ◌-◌, List, [], ◌∷◌, ◌++◌, Option, Some, None, IfSome, length, take, sym, subst, ap, arith}
use Rattle.std.specs.List.{All}
use Rattle.std.specs.Io.KnownBytes.{Appends}
use Rattle.std.proofs.lemmas.List.{take_all}
use Rattle.jc_base.specs.declared.limits.Limits.{Limits}
use Rattle.jc_base.specs.Journal.{Journal}
use Rattle.jc_base.specs.LimitBounds.{AreDefaults}
use Rattle.jc_collect.specs.declared.runs.RunEnd.{RunEnd}
use Rattle.jc_collect.specs.declared.runs.RunEnd.TheVariants.{Done, Stopped}
use Rattle.jc_collect.specs.Crash.{IsLeft, KeepsAcknowledged, LeftAtEnd}
use Rattle.jc_collect.specs.Run as run
use Rattle.jc_upload.specs.Answer.{IsAnswer, answer_text}
use Rattle.jc_upload.specs.declared.answer.Answer.{Answer}
use Rattle.jc_command_shared.specs.declared.status.Status.{Status}
use Rattle.jc_collector_answers.specs.Answered.{KeepsFirst, KeepsPrinted, begun, judged}
use Rattle.jc_collector_answers.proofs.Printing.{begun_more, begun_same, front_of_lines, shows, whole_if_all, whole_if_more}

module _ (limits : Limits) (uploads : List (List ℕ)) (start found : Journal)
    (defaults : AreDefaults limits.name limits.value limits.fields limits.entry limits.file) where
  left_done : (count : ℕ) (old now sunk : Option (List ℕ)) (status : Status)
      → LeftAtEnd limits start uploads (Some (begun old [])) sunk found → run.AreWritten count (Some (begun old [])) sunk
      → ((before : Option (List ℕ)) (answers : List Answer) → All IsAnswer answers → sunk ≡ Some (begun before (run.lines_of_answers answers))
      → (status ≡ judged answers) × Appends before now (run.lines_of_answers answers))
      → KeepsPrinted uploads start old now found
  left_done count old now None status left wrote ends = absurd left.lines
  left_done count old now (Some sunk) status left wrote ends =
      let lines = run.lines_of_answers left.answers in
      let is : sunk ≡ begun old (run.lines_of_answers wrote.answers) = wrote.lines ∙ begun_more old [] (run.lines_of_answers wrote.answers) in
      let printed = (ends old wrote.answers wrote.lawful (ap (λ (l : List ℕ). Some l) is)).1 in
      let same : run.lines_of_answers wrote.answers ≡ lines =
      (begun_same old old (run.lines_of_answers wrote.answers) lines (sym is ∙ (left.lines ∙ begun_more old [] lines))).1 in
      record {
        limits = limits;
        defaults = defaults;
        answers = left.answers;
        keeps = left.keeps;
        printed = subst (λ (l : List ℕ). Appends old now l) same printed;
      }

  pub left_printed : (count : ℕ) (old now there written sunk : Option (List ℕ)) (end : RunEnd) (ended : Option Status) (status : Status)
      → written ≡ Some (begun old []) → end ≡ Done → ended ≡ Some status
      → IsLeft limits start uploads written end sunk found → run.WritesEach count written sunk end
      → IfSome ended (λ status. (before : Option (List ℕ)) (answers : List Answer) → All IsAnswer answers
      → sunk ≡ Some (begun before (run.lines_of_answers answers)) → (status ≡ judged answers) × Appends before there (run.lines_of_answers answers))
      → there ≡ now → KeepsPrinted uploads start old now found
  left_printed count old now there written sunk (Stopped done bytes) ended status begins is_done is_some left wrote ends same = absurd cc
  left_printed count old now there written sunk Done None status begins is_done is_some left wrote ends same = absurd cc
  left_printed count old now there written sunk Done (Some given) status begins is_done is_some left wrote ends same =
      subst (λ (n : Option (List ℕ)). KeepsPrinted uploads start old n found) same
      (left_done count old there sunk given
      (subst (λ (w : Option (List ℕ)). LeftAtEnd limits start uploads w sunk found) begins left)
      (subst (λ (w : Option (List ℕ)). run.AreWritten count w sunk) begins wrote) ends)

  -- of a run that ended so, the first of its uploads, and a front of their lines
  pub left_first : (written sunk old there now : Option (List ℕ)) (end : RunEnd) → IsLeft limits start uploads written end sunk found
      → written ≡ Some (begun old [])
      → ((before : Option (List ℕ)) (t : List ℕ) → sunk ≡ Some (begun before t) → Appends before there t) → there ≡ now
      → KeepsFirst uploads start old now found
  left_first written sunk old there now Done left begins ends same = record {
    limits = limits;
    defaults = defaults;
    done = length uploads;
    within = omega arith;
    answers = left.answers;
    keeps = subst (λ (us : List (List ℕ)). KeepsAcknowledged limits start us left.answers found) (sym (take_all (length uploads) uploads (omega arith))) left.keeps;
    shown = length (run.lines_of_answers left.answers);
    whole_before = whole_if_all left.answers (length uploads - 1);
    printed = subst (λ (l : List ℕ). Appends old now l)
        (sym (take_all (length (run.lines_of_answers left.answers)) (run.lines_of_answers left.answers) (omega arith)))
        (shows old now there written sunk (run.lines_of_answers left.answers) begins left.lines ends same);
  }
  left_first written sunk old there now (Stopped done bytes) left begins ends same = record {
    limits = limits;
    defaults = defaults;
    done = done + 1;
    within = omega (arith, left.inside);
    answers = left.answers ++ left.last ∷ [];
    keeps = left.keeps;
    shown = length (run.lines_of_answers left.answers) + bytes;
    whole_before = whole_if_more left.answers left.last done bytes left.number;
    printed = subst (λ (l : List ℕ). Appends old now l) (front_of_lines left.answers left.last bytes)
        (shows old now there written sunk (run.lines_of_answers left.answers ++ take bytes (answer_text left.last)) begins left.lines ends same);
  }
