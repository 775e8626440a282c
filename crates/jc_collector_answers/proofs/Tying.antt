-- What holds of the answers that were printed, one after the other.
use Rattle.std.proofs.Common.{◌≡◌, ◌∙◌, ℕ, List, [], ◌∷◌, ◌++◌, Option, Some, None, take, sym, ap, subst, arith}
use Rattle.std.specs.Prelude.{IfSome}
use Rattle.std.specs.List.{All}
use Rattle.std.specs.Io.KnownBytes.{Appends}
use Rattle.std.proofs.lemmas.List.{append-nil}
use Rattle.jc_collect.specs.declared.runs.RunEnd.{RunEnd}
use Rattle.jc_collect.specs.declared.runs.RunEnd.TheVariants.{Done, Stopped}
use Rattle.jc_collect.specs.Run as run
use Rattle.jc_collect.proofs.Lists.{some_same}
use Rattle.jc_upload.specs.Answer.{IsAnswer, answer_text}
use Rattle.jc_upload.specs.declared.answer.Answer.{Answer}
use Rattle.jc_command_shared.specs.declared.status.Status.{Status}
use Rattle.jc_collector_answers.specs.Answered.{begun, judged}
use Rattle.jc_collector_answers.specs.Tied.{PrintsWith, PrintsFront}
use Rattle.jc_collector_answers.proofs.Printing.{begun_more, shows}

-- ---- a run through a sink, as the writer behind the sink shows it

module _ (Holds : List Answer → Type 0) where
  with_done : (count : ℕ) (old final sunk : Option (List ℕ)) (status : Status) (wrote : run.AreWritten count (Some (begun old [])) sunk) → Holds wrote.answers
      → ((at_first : Option (List ℕ)) (answers : List Answer) → All IsAnswer answers → sunk ≡ Some (begun at_first (run.lines_of_answers answers))
      → (status ≡ judged answers) × Appends at_first final (run.lines_of_answers answers))
      → PrintsWith Holds count status old final
  with_done count old final None status wrote holds ends = absurd wrote.lines
  with_done count old final (Some sunk) status wrote holds ends =
      let is : sunk ≡ begun old (run.lines_of_answers wrote.answers) = wrote.lines ∙ begun_more old [] (run.lines_of_answers wrote.answers) in
      let both = ends old wrote.answers wrote.lawful (ap (λ (l : List ℕ). Some l) is) in
      record {
        shown = record { answers = wrote.answers; each = wrote.number; lawful = wrote.lawful; is = both.0; printed = both.1 };
        holds = holds;
      }

  pub prints_with : (count size : ℕ) (old final there written sunk : Option (List ℕ)) (end : RunEnd) (ended : Option Status) (status : Status)
      → size ≡ count → written ≡ Some (begun old []) → end ≡ Done → ended ≡ Some status
      → run.WritesWith Holds size written sunk end
      → IfSome ended (λ status. (at_first : Option (List ℕ)) (answers : List Answer) → All IsAnswer answers
      → sunk ≡ Some (begun at_first (run.lines_of_answers answers)) → (status ≡ judged answers) × Appends at_first there (run.lines_of_answers answers))
      → there ≡ final → PrintsWith Holds count status old final
  prints_with count size old final there written sunk (Stopped done bytes) ended status is begins is_done is_some wrote ends same = absurd cc
  prints_with count size old final there written sunk Done None status is begins is_done is_some wrote ends same = absurd cc
  prints_with count size old final there written sunk Done (Some given) status is begins is_done is_some wrote ends same =
      subst (λ (s : Status). PrintsWith Holds count s old final) (some_same given status is_some)
      (subst (λ (n : Option (List ℕ)). PrintsWith Holds count given old n) same
      (subst (λ (n : ℕ). PrintsWith Holds n given old there) is (from_start written begins wrote)))
    where
      from_start : (w : Option (List ℕ)) → w ≡ Some (begun old []) → run.WritesWith Holds size w sunk Done → PrintsWith Holds size given old there
      from_start w begins wrote =
          let h : run.WritesWith Holds size (Some (begun old [])) sunk Done = subst (λ (v : Option (List ℕ)). run.WritesWith Holds size v sunk Done) begins wrote in
          with_done size old there sunk given h.0 h.1 ends

  -- whatever was printed of a run
  pub prints_front : (size : ℕ) (old final there written sunk : Option (List ℕ)) (end : RunEnd) → run.WritesWith Holds size written sunk end
      → written ≡ Some (begun old [])
      → ((at_first : Option (List ℕ)) (t : List ℕ) → sunk ≡ Some (begun at_first t) → Appends at_first there t) → there ≡ final
      → PrintsFront Holds old final
  prints_front size old final there written sunk Done (wrote, holds) begins ends same =
      let lines = run.lines_of_answers wrote.answers in
      record {
        answers = wrote.answers;
        more = [];
        few = omega arith;
        bytes = 0;
        printed = subst (λ (l : List ℕ). Appends old final l) (sym (append-nil lines))
            (shows old final there written sunk lines begins wrote.lines ends same);
        holds = subst Holds (sym (append-nil wrote.answers)) holds;
      }
  prints_front size old final there written sunk (Stopped done bytes) (inside, wrote, holds) begins ends same =
      let lines = run.lines_of_answers wrote.answers in
      let last = answer_text wrote.last in
      record {
        answers = wrote.answers;
        more = wrote.last ∷ [];
        few = omega arith;
        bytes = bytes;
        printed = subst (λ (l : List ℕ). Appends old final (lines ++ take bytes l)) (sym (append-nil last))
            (shows old final there written sunk (lines ++ take bytes last) begins wrote.lines ends same);
        holds = holds;
      }
