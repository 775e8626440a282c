-- What a run knows once it went over one more position.
use Rattle.std.proofs.Common.{◌≡◌, ◌⊎◌, ℕ, Bool, true, false, List, [], ◌∷◌, ◌++◌, Option, Some, None, MatchBool, length, refl, sym, ap, subst, ◌∙◌, inl, inr, ⊎_elim, arith}
use Rattle.std.specs.List.{slice_get, Contains}
use Rattle.jc_base.specs.declared.fault.Ending.TheVariants.{Bad}
use Rattle.jc_base.specs.declared.fault.Fault.{Fault}
use Rattle.jc_base.specs.declared.id.Id128.{Id128}
use Rattle.jc_base.specs.declared.limits.Limits.{Limits}
use Rattle.jc_base.specs.Journal.{Journal}
use Rattle.jc_base.specs.LogEntry.{LogEntry}
use Rattle.jc_base.specs.Reading.{Reading, reading}
use Rattle.jc_keeper.specs.Agree.{Agree, IsStored, StandsIn}
use Rattle.jc_upload.specs.declared.answer.Answer.{Answer}
use Rattle.jc_upload.specs.declared.answer.Answer.TheVariants.{Ack, No}
use Rattle.jc_collect.specs.Accepted.{SaysEntry, WasAccepted, StoredBefore, IsAcceptedAt, IsStoredBefore}
use Rattle.jc_collect.specs.Answer.{IsAnswerTo, IsSetAside, IsTaken, ReportsConflict, ReportsFault, is_set_aside, is_set_aside_code}
use Rattle.jc_collect.specs.Position.{Answers, Joins, Leaves}
use Rattle.jc_upload.specs.Says.{Says}
use Rattle.jc_collect.proofs.Lists.{get_last, get_cases, length_more}
use Rattle.jc_collect.proofs.OneAnswer.{none_within}
use Rattle.jc_collect.proofs.OneMore.{SaysOnce, is_ack, end_not_bad, marked_false, says_last, last_says, stored_more, stored_back}

module _ (once : SaysOnce) (limits : Limits) (uploads : List (List ℕ)) (upload : List ℕ) (start mid : Journal) (accepted : List Bool)
    (each : length accepted ≡ length uploads)
    (stored : IsStoredBefore limits start uploads accepted (length uploads) mid) where
  -- ---- whether the upload is accepted

  module _ (aside : List Bool) (all : length aside ≡ length uploads) where
    abbrev In : (put mark : Bool) → Type 0
    In put mark = IsAcceptedAt limits start (uploads ++ upload ∷ []) (aside ++ put ∷ []) (accepted ++ mark ∷ []) (length uploads)

    taken_accepted : (of : Id128 × ℕ) (count new left : ℕ) (mark : Bool) → IsTaken limits upload mid of count new left → In false mark
    taken_accepted of count new left mark t = record {
      passed = λ m. marked_false (sym (get_last aside false) ∙ ap (λ k. slice_get (aside ++ false ∷ []) k) all ∙ m);
      reading = t.reading;
      says = says_last limits uploads upload t.reading (inr (t.head, t.says));
      left = left;
      ended = t.ended;
      agrees = λ e f in_e in_f. t.agrees e f (stands e in_e) (stands f in_f);
    }
      where
        stands : (e : LogEntry) → StoredBefore limits start (uploads ++ upload ∷ []) (accepted ++ mark ∷ []) (length uploads) e ⊎ Contains t.reading.entries e
            → StandsIn mid t.reading.entries e
        stands e w =
            ⊎_elim (λ s. inl ((stored e).1 (stored_back limits uploads upload start accepted mark each (length uploads) e (omega arith) s)))
            (λ c. inr c) w

    module _ (mark : Bool) (h : In false mark) where
      same : (r : Reading) → Says limits upload r → r ≡ h.reading
      same r says = once limits upload r h.reading says (last_says limits uploads upload h.reading h.says)

      not_faulty : (r : Reading) (fault : Fault) → Says limits upload r → ¬ (r.ending ≡ Bad fault)
      not_faulty r fault says bad =
          end_not_bad h.left fault (sym h.ended ∙ ap (λ (s : Reading). s.ending) (sym (same r says)) ∙ bad)

      stands_in : (r : Reading) → Says limits upload r → (e : LogEntry) → StandsIn mid r.entries e
          → StoredBefore limits start (uploads ++ upload ∷ []) (accepted ++ mark ∷ []) (length uploads) e ⊎ Contains h.reading.entries e
      stands_in r says e w =
          ⊎_elim (λ s. inl (stored_more limits uploads upload start accepted mark each (length uploads) e ((stored e).0 s)))
          (λ c. inr (subst (λ (s : Reading). Contains s.entries e) (same r says) c)) w

      agree : (r : Reading) → Says limits upload r → Agree mid r.entries
      agree r says e f in_e in_f = h.agrees e f (stands_in r says e in_e) (stands_in r says f in_f)

      not_refused : (of : Option (Id128 × ℕ)) (code place : ℕ) → ¬ IsAnswerTo limits upload mid (No of code place)
      not_refused None code place a =
          not_faulty (reading [] (Bad a.fault)) a.fault (inl (record { fault = a.fault; shown = a.shown; nothing = refl })) refl
      not_refused (Some of) code place a =
          let says : Says limits upload a.reading = inr (a.head, a.says) in
          ⊎_elim
          (λ (w : ReportsConflict mid a.reading code place). none_within mid a.reading.entries place (agree a.reading says) w.first)
          (λ (w : ReportsFault mid a.reading code place). not_faulty a.reading w.fault says w.ended)
          a.why

    no_accepted : (of : Option (Id128 × ℕ)) (code place : ℕ) (put mark : Bool)
        → MatchBool put (IsSetAside limits upload (No of code place)) (IsAnswerTo limits upload mid (No of code place)) → ¬ In put mark
    no_accepted of code place true mark a h =
        h.passed (ap (λ k. slice_get (aside ++ true ∷ []) k) (sym all) ∙ get_last aside true)
    no_accepted of code place false mark a h = not_refused mark h of code place a

    pub right_mark : (answer : Answer) → Answers limits upload mid answer → is_ack answer ≡ true → In (is_set_aside answer) (is_ack answer)
    right_mark (Ack source from count new left) a h = taken_accepted (source, from) count new left true a
    right_mark (No of code place) a h = absurd (never h)
      where
        never : ¬ (false ≡ true)
        never e = cc

    pub only_mark : (answer : Answer) → Answers limits upload mid answer → In (is_set_aside answer) (is_ack answer) → is_ack answer ≡ true
    only_mark (Ack source from count new left) a h = refl
    only_mark (No of code place) a h = absurd (no_accepted of code place (is_set_aside_code code) false a h)

  -- ---- what is stored then

  -- an entry of an accepted upload is one of those before, or of this one where it is accepted
  was_cases : (mark : Bool) (e : LogEntry) → WasAccepted limits (uploads ++ upload ∷ []) (accepted ++ mark ∷ []) (length (uploads ++ upload ∷ [])) e
      → StoredBefore limits start uploads accepted (length uploads) e
      ⊎ ((mark ≡ true) × SaysEntry limits (uploads ++ upload ∷ []) (length uploads) e)
  was_cases mark e w =
      ⊎_elim
      (λ c. inl (stored_back limits uploads upload start accepted mark each (length uploads) e (omega arith)
      (inr (record { earlier = w.earlier; before = omega (arith, c.0, each); marked = w.marked; says = w.says }))))
      (λ c. inr (c.1, subst (λ (i : ℕ). SaysEntry limits (uploads ++ upload ∷ []) i e) (c.0 ∙ each) w.says))
      (get_cases accepted mark w.earlier true w.marked)

  later : (mark : Bool) (e : LogEntry) → StoredBefore limits start uploads accepted (length uploads) e
      → StoredBefore limits start (uploads ++ upload ∷ []) (accepted ++ mark ∷ []) (length (uploads ++ upload ∷ [])) e
  later mark e h =
      ⊎_elim (λ s. inl s)
      (λ w. inr (record { earlier = w.earlier; before = omega (arith, w.before, length_more uploads upload); marked = w.marked; says = w.says }))
      (stored_more limits uploads upload start accepted mark each (length uploads) e h)

  joined : (after : Journal) → Joins limits upload mid after
      → IsStoredBefore limits start (uploads ++ upload ∷ []) (accepted ++ true ∷ []) (length (uploads ++ upload ∷ [])) after
  joined after j e = (to, fro)
    where
      to : IsStored after e → StoredBefore limits start (uploads ++ upload ∷ []) (accepted ++ true ∷ []) (length (uploads ++ upload ∷ [])) e
      to h =
          ⊎_elim (λ s. later true e ((stored e).0 s))
          (λ c. inr (record {
            earlier = length uploads;
            before = omega (arith, length_more uploads upload);
            marked = ap (λ k. slice_get (accepted ++ true ∷ []) k) (sym each) ∙ get_last accepted true;
            says = record { reading = j.reading; says = says_last limits uploads upload j.reading j.says; has = c };
          }))
          ((j.has e).0 h)

      this : SaysEntry limits (uploads ++ upload ∷ []) (length uploads) e → IsStored after e
      this w =
          let same = once limits upload w.reading j.reading (last_says limits uploads upload w.reading w.says) j.says in
          (j.has e).1 (inr (subst (λ (s : Reading). Contains s.entries e) same w.has))

      fro : StoredBefore limits start (uploads ++ upload ∷ []) (accepted ++ true ∷ []) (length (uploads ++ upload ∷ [])) e → IsStored after e
      fro h =
          ⊎_elim (λ s. (j.has e).1 (inl ((stored e).1 (inl s))))
          (λ w. ⊎_elim (λ s. (j.has e).1 (inl ((stored e).1 s))) (λ n. this n.1) (was_cases true e w))
          h

  same_stored : (after : Journal) → after ≡ mid
      → IsStoredBefore limits start (uploads ++ upload ∷ []) (accepted ++ false ∷ []) (length (uploads ++ upload ∷ [])) after
  same_stored after h e = (to, fro)
    where
      never : ¬ (false ≡ true)
      never e = cc

      to : IsStored after e → StoredBefore limits start (uploads ++ upload ∷ []) (accepted ++ false ∷ []) (length (uploads ++ upload ∷ [])) e
      to s = later false e ((stored e).0 (subst (λ (m : Journal). IsStored m e) h s))

      was : StoredBefore limits start uploads accepted (length uploads) e → IsStored after e
      was s = subst (λ (m : Journal). IsStored m e) (sym h) ((stored e).1 s)

      fro : StoredBefore limits start (uploads ++ upload ∷ []) (accepted ++ false ∷ []) (length (uploads ++ upload ∷ [])) e → IsStored after e
      fro s = ⊎_elim (λ w. was (inl w)) (λ w. ⊎_elim (λ b. was b) (λ n. absurd (never n.0)) (was_cases false e w)) s

  pub stored_next : (answer : Answer) (after : Journal) → Leaves limits upload mid answer after
      → IsStoredBefore limits start (uploads ++ upload ∷ []) (accepted ++ is_ack answer ∷ []) (length (uploads ++ upload ∷ [])) after
  stored_next (Ack source from count new left) after h = joined after h
  stored_next (No of code place) after h = same_stored after h
