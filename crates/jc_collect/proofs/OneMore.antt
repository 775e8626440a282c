-- A run with one more position.
use Rattle.std.proofs.Common.{◌≡◌, ◌⊎◌, ℕ, ◌+◌, ◌<◌, ◌≤◌, Bool, true, false, List, [], ◌∷◌, ◌++◌, Some, length, sym, ap, subst, ◌∙◌, inl, inr, ⊎_elim, arith}
use Rattle.std.specs.List.{slice_get, Contains}
use Rattle.jc_base.specs.declared.fault.Ending.TheVariants.{End, Bad}
use Rattle.jc_base.specs.declared.fault.Fault.{Fault}
use Rattle.jc_base.specs.declared.limits.Limits.{Limits}
use Rattle.jc_base.specs.Journal.{Journal}
use Rattle.jc_base.specs.LogEntry.{LogEntry}
use Rattle.jc_base.specs.Reading.{Reading}
use Rattle.jc_upload.specs.declared.answer.Answer.{Answer}
use Rattle.jc_upload.specs.declared.answer.Answer.TheVariants.{Ack, No}
use Rattle.jc_collect.specs.Accepted.{IsMarked, SaysAt, SaysEntry, WasAccepted, StoredBefore, IsAcceptedAt, AreAccepted}
use Rattle.jc_upload.specs.Says.{Says}
use Rattle.jc_collect.proofs.Lists.{some_same, get_last, get_more, get_back, get_cases, length_more}

-- an acknowledged upload is the accepted one
abbrev pub is_ack : Answer → Bool
is_ack (Ack source start count new left) = true
is_ack (No of code place) = false

-- no upload says two things
abbrev pub SaysOnce : Type 0
SaysOnce = (limits : Limits) (upload : List ℕ) (r s : Reading) → Says limits upload r → Says limits upload s → r ≡ s

pub end_not_bad : (left : ℕ) (fault : Fault) → ¬ (End left ≡ Bad fault)
end_not_bad left fault h = cc

pub marked_false : ¬ (Some false ≡ Some true)
marked_false h = absurd (false_not_true (some_same false true h))
  where
    false_not_true : ¬ (false ≡ true)
    false_not_true e = cc

-- ---- what was so of the positions before stays so

module _ (limits : Limits) (uploads : List (List ℕ)) (upload : List ℕ) where
  pub says_more : (i : ℕ) (r : Reading) → SaysAt limits uploads i r → SaysAt limits (uploads ++ upload ∷ []) i r
  says_more i r h = record { upload = h.upload; at = get_more uploads upload i h.upload h.at; says = h.says }

  pub says_back : (i : ℕ) (r : Reading) → i < length uploads → SaysAt limits (uploads ++ upload ∷ []) i r → SaysAt limits uploads i r
  says_back i r within h = record { upload = h.upload; at = get_back uploads upload i h.upload within h.at; says = h.says }

  pub entry_more : (i : ℕ) (e : LogEntry) → SaysEntry limits uploads i e → SaysEntry limits (uploads ++ upload ∷ []) i e
  entry_more i e h = record { reading = h.reading; says = says_more i h.reading h.says; has = h.has }

  pub entry_back : (i : ℕ) (e : LogEntry) → i < length uploads → SaysEntry limits (uploads ++ upload ∷ []) i e → SaysEntry limits uploads i e
  entry_back i e within h = record { reading = h.reading; says = says_back i h.reading within h.says; has = h.has }

  -- the last one says what its upload says
  pub says_last : (r : Reading) → Says limits upload r → SaysAt limits (uploads ++ upload ∷ []) (length uploads) r
  says_last r h = record { upload = upload; at = get_last uploads upload; says = h }

  pub last_says : (r : Reading) → SaysAt limits (uploads ++ upload ∷ []) (length uploads) r → Says limits upload r
  last_says r h = subst (λ (u : List ℕ). Says limits u r) (sym (some_same upload h.upload (sym (get_last uploads upload) ∙ h.at))) h.says

  module _ (start : Journal) (accepted : List Bool) (mark : Bool) (each : length accepted ≡ length uploads) where
    pub was_more : (i : ℕ) (e : LogEntry) → WasAccepted limits uploads accepted i e → WasAccepted limits (uploads ++ upload ∷ []) (accepted ++ mark ∷ []) i e
    was_more i e h = record {
      earlier = h.earlier;
      before = h.before;
      marked = get_more accepted mark h.earlier true h.marked;
      says = entry_more h.earlier e h.says;
    }

    pub was_back : (i : ℕ) (e : LogEntry) → i ≤ length uploads → WasAccepted limits (uploads ++ upload ∷ []) (accepted ++ mark ∷ []) i e → WasAccepted limits uploads accepted i e
    was_back i e low h = record {
      earlier = h.earlier;
      before = h.before;
      marked = get_back accepted mark h.earlier true (omega (arith, h.before, low, each)) h.marked;
      says = entry_back h.earlier e (omega (arith, h.before, low)) h.says;
    }

    pub stored_more : (i : ℕ) (e : LogEntry) → StoredBefore limits start uploads accepted i e → StoredBefore limits start (uploads ++ upload ∷ []) (accepted ++ mark ∷ []) i e
    stored_more i e h = ⊎_elim (λ s. inl s) (λ w. inr (was_more i e w)) h

    pub stored_back : (i : ℕ) (e : LogEntry) → i ≤ length uploads → StoredBefore limits start (uploads ++ upload ∷ []) (accepted ++ mark ∷ []) i e → StoredBefore limits start uploads accepted i e
    stored_back i e low h = ⊎_elim (λ s. inl s) (λ w. inr (was_back i e low w)) h

    module _ (aside : List Bool) (put : Bool) (all : length aside ≡ length uploads) where
      accepted_more : (i : ℕ) → i < length uploads → IsAcceptedAt limits start uploads aside accepted i
          → IsAcceptedAt limits start (uploads ++ upload ∷ []) (aside ++ put ∷ []) (accepted ++ mark ∷ []) i
      accepted_more i within h = record {
        passed = λ m. h.passed (get_back aside put i true (omega (arith, within, all)) m);
        reading = h.reading;
        says = says_more i h.reading h.says;
        left = h.left;
        ended = h.ended;
        agrees = λ e f in_e in_f. h.agrees e f (back e in_e) (back f in_f);
      }
        where
          back : (e : LogEntry) → StoredBefore limits start (uploads ++ upload ∷ []) (accepted ++ mark ∷ []) i e ⊎ Contains h.reading.entries e
              → StoredBefore limits start uploads accepted i e ⊎ Contains h.reading.entries e
          back e w = ⊎_elim (λ s. inl (stored_back i e (omega (arith, within)) s)) (λ c. inr c) w

      accepted_back : (i : ℕ) → i < length uploads
          → IsAcceptedAt limits start (uploads ++ upload ∷ []) (aside ++ put ∷ []) (accepted ++ mark ∷ []) i
          → IsAcceptedAt limits start uploads aside accepted i
      accepted_back i within h = record {
        passed = λ m. h.passed (get_more aside put i true m);
        reading = h.reading;
        says = says_back i h.reading within h.says;
        left = h.left;
        ended = h.ended;
        agrees = λ e f in_e in_f. h.agrees e f (more e in_e) (more f in_f);
      }
        where
          more : (e : LogEntry) → StoredBefore limits start uploads accepted i e ⊎ Contains h.reading.entries e
              → StoredBefore limits start (uploads ++ upload ∷ []) (accepted ++ mark ∷ []) i e ⊎ Contains h.reading.entries e
          more e w = ⊎_elim (λ s. inl (stored_more i e s)) (λ c. inr c) w

      -- the set with one more mark, where that one is right
      pub are_more : AreAccepted limits start uploads aside accepted
          → (mark ≡ true → IsAcceptedAt limits start (uploads ++ upload ∷ []) (aside ++ put ∷ []) (accepted ++ mark ∷ []) (length uploads))
          → (IsAcceptedAt limits start (uploads ++ upload ∷ []) (aside ++ put ∷ []) (accepted ++ mark ∷ []) (length uploads) → mark ≡ true)
          → AreAccepted limits start (uploads ++ upload ∷ []) (aside ++ put ∷ []) (accepted ++ mark ∷ [])
      are_more before right only = record {
        each = length_more accepted mark ∙ ap (λ n. n + 1) each ∙ sym (length_more uploads upload);
        are = λ i. (to i, fro i);
      }
        where
          In : ℕ → Type 0
          In = λ i. IsAcceptedAt limits start (uploads ++ upload ∷ []) (aside ++ put ∷ []) (accepted ++ mark ∷ []) i

          to : (i : ℕ) → IsMarked (accepted ++ mark ∷ []) i → In i
          to i m =
              ⊎_elim (λ w. accepted_more i (omega (arith, w.0, each)) ((before.are i).0 w.1))
              (λ w. subst In (sym (w.0 ∙ each)) (right w.1))
              (get_cases accepted mark i true m)

          fro : (i : ℕ) → In i → IsMarked (accepted ++ mark ∷ []) i
          fro i h =
              ⊎_elim (λ w. get_more accepted mark i true ((before.are i).1 (accepted_back i w.0 h)))
              (λ w. last i w.0 (only (subst In w.0 h)))
              (get_cases uploads upload i h.says.upload h.says.at)
            where
              last : (i : ℕ) → i ≡ length uploads → mark ≡ true → IsMarked (accepted ++ mark ∷ []) i
              last i at is =
                  ap (λ n. slice_get (accepted ++ mark ∷ []) n) (at ∙ sym each) ∙ get_last accepted mark ∙ ap (λ b. Some b) is
