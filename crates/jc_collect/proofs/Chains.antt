-- Deliveries one after the other take what is accepted, and nothing else.
use Rattle.std.proofs.Common.{◌≡◌, ◌⊎◌, ℕ, zero, suc, ◌+◌, ◌<◌, ◌≤◌, Bool, true, List, [], ◌∷◌, ◌++◌, length, map, refl, sym, ap, subst, ◌∙◌, inl, inr, ⊎_elim, arith, append_assoc, append-nil}
use Rattle.std.proofs.lemmas.Bool.{cases_lt}
use Rattle.std.proofs.lemmas.List.{map-append, length-map}
use Rattle.jc_base.specs.declared.limits.Limits.{Limits}
use Rattle.jc_base.specs.Journal.{Journal}
use Rattle.jc_base.specs.LogEntry.{LogEntry}
use Rattle.jc_upload.specs.declared.answer.Answer.{Answer}
use Rattle.jc_upload.specs.declared.answer.Answer.TheVariants.{Ack, No}
use Rattle.jc_collect.specs.Accepted.{IsMarked, StoredBefore, AreAccepted, IsStoredBefore}
use Rattle.jc_collect.specs.Answer.{is_set_aside}
use Rattle.jc_collect.specs.Chain.{Turn, IsChain, journal_before, uploads_of, aside_of, acknowledged_of, is_acknowledged, AreTaken}
use Rattle.jc_collect.specs.Position.{IsPosition}
use Rattle.jc_collect.proofs.Lists.{none_not_some, length_more}
use Rattle.jc_collect.proofs.OneMore.{SaysOnce, is_ack, stored_more, stored_back, are_more}
use Rattle.jc_collect.proofs.Positions.{right_mark, only_mark, stored_next}

-- ---- the journals of a chain with one more

before_same : (start : Journal) (turns : List Turn) (turn : Turn) (i : ℕ) → i ≤ length turns → journal_before start (turns ++ turn ∷ []) i ≡ journal_before start turns i
before_same start [] turn zero low = refl
before_same start [] turn (suc i) low = absurd (omega (arith, low))
before_same start (t ∷ turns) turn zero low = refl
before_same start (t ∷ turns) turn (suc i) low = before_same t.after turns turn i (omega (arith, low))

before_last : (start : Journal) (turns : List Turn) (turn : Turn) (i : ℕ) → length turns < i → journal_before start (turns ++ turn ∷ []) i ≡ turn.after
before_last start turns turn zero high = absurd (omega (arith, high))
before_last start [] turn (suc i) high = refl
before_last start (t ∷ turns) turn (suc i) high = before_last t.after turns turn i (omega (arith, high))

-- ---- marks

same_mark : (answer : Answer) → is_ack answer ≡ is_acknowledged answer
same_mark (Ack source start count new left) = refl
same_mark (No of code place) = refl

same_marks : (turns : List Turn) → map (λ (turn : Turn). is_ack turn.answer) turns ≡ acknowledged_of turns
same_marks [] = refl
same_marks (turn ∷ turns) = λ i. same_mark turn.answer i ∷ same_marks turns i

nothing_marked : (i : ℕ) → ¬ IsMarked [] i
nothing_marked i h = none_not_some true h

-- ---- what is known of a chain so far

record SoFar (limits : Limits) (start : Journal) (uploads : List (List ℕ)) (aside marks : List Bool) (journals : ℕ → Journal) (last : Journal) : Type 0 where
  all : length aside ≡ length uploads
  accepted : AreAccepted limits start uploads aside marks
  stored : (i : ℕ) → i ≤ length uploads → IsStoredBefore limits start uploads marks i (journals i)
  at_end : IsStoredBefore limits start uploads marks (length uploads) last

so_far_none : (limits : Limits) (start : Journal) (journals : ℕ → Journal) → ((i : ℕ) → journals i ≡ start) → SoFar limits start [] [] [] journals start
so_far_none limits start journals same = record {
  all = refl;
  accepted = record {
    each = refl;
    are = λ i. (λ m. absurd (nothing_marked i m), λ h. absurd (none_not_some h.says.upload h.says.at));
  };
  stored = λ i low. subst (λ (m : Journal). IsStoredBefore limits start [] [] i m) (sym (same i)) (nothing i);
  at_end = nothing 0;
}
  where
    nothing : (i : ℕ) → IsStoredBefore limits start [] [] i start
    nothing i e = (λ s. inl s, λ h. ⊎_elim (λ s. s) (λ w. absurd (nothing_marked w.earlier w.marked)) h)

module _ (once : SaysOnce) (limits : Limits) (start : Journal) (uploads : List (List ℕ)) (aside marks : List Bool) (journals : ℕ → Journal) (last : Journal)
    (so : SoFar limits start uploads aside marks journals last) (upload : List ℕ) (answer : Answer) (after : Journal)
    (position : IsPosition limits upload last answer after) where
  marks_more : AreAccepted limits start (uploads ++ upload ∷ []) (aside ++ is_set_aside answer ∷ []) (marks ++ is_ack answer ∷ [])
  marks_more =
      are_more limits uploads upload start marks (is_ack answer) so.accepted.each aside (is_set_aside answer) so.all so.accepted
      (right_mark once limits uploads upload start last marks so.accepted.each so.at_end aside so.all answer position.answers)
      (only_mark once limits uploads upload start last marks so.accepted.each so.at_end aside so.all answer position.answers)

  end_more : IsStoredBefore limits start (uploads ++ upload ∷ []) (marks ++ is_ack answer ∷ []) (length (uploads ++ upload ∷ [])) after
  end_more = stored_next once limits uploads upload start last marks so.accepted.each so.at_end answer after position.leaves

  -- the positions before are as they were
  before_more : (i : ℕ) (journal : Journal) → i ≤ length uploads → IsStoredBefore limits start uploads marks i journal
      → IsStoredBefore limits start (uploads ++ upload ∷ []) (marks ++ is_ack answer ∷ []) i journal
  before_more i journal low h e = (
    λ s. stored_more limits uploads upload start marks (is_ack answer) so.accepted.each i e ((h e).0 s),
    λ s. (h e).1 (stored_back limits uploads upload start marks (is_ack answer) so.accepted.each i e low s),
  )

  so_far_more : (others : ℕ → Journal) → ((i : ℕ) → i ≤ length uploads → others i ≡ journals i) → ((i : ℕ) → length uploads < i → others i ≡ after)
      → SoFar limits start (uploads ++ upload ∷ []) (aside ++ is_set_aside answer ∷ []) (marks ++ is_ack answer ∷ []) others after
  so_far_more others same new = record {
    all = length_more aside (is_set_aside answer) ∙ (ap (λ n. n + 1) so.all ∙ sym (length_more uploads upload));
    accepted = marks_more;
    stored = λ i low. at i low (cases_lt (length uploads) i);
    at_end = end_more;
  }
    where
      at : (i : ℕ) → i ≤ length (uploads ++ upload ∷ []) → (length uploads < i) ⊎ (i ≤ length uploads)
          → IsStoredBefore limits start (uploads ++ upload ∷ []) (marks ++ is_ack answer ∷ []) i (others i)
      at i low (inl high) =
          let last_one : length (uploads ++ upload ∷ []) ≡ i = omega (arith, low, high, length_more uploads upload) in
          subst (λ (m : Journal). IsStoredBefore limits start (uploads ++ upload ∷ []) (marks ++ is_ack answer ∷ []) i m) (sym (new i high))
          (subst (λ (k : ℕ). IsStoredBefore limits start (uploads ++ upload ∷ []) (marks ++ is_ack answer ∷ []) k after) last_one end_more)
      at i low (inr within) =
          subst (λ (m : Journal). IsStoredBefore limits start (uploads ++ upload ∷ []) (marks ++ is_ack answer ∷ []) i m) (sym (same i within))
          (before_more i (journals i) within (so.stored i within))

module _ (once : SaysOnce) (limits : Limits) (start : Journal) where
  abbrev Knows : List Turn → Journal → Type 0
  Knows turns last = SoFar limits start (uploads_of turns) (aside_of turns) (map (λ (turn : Turn). is_ack turn.answer) turns) (journal_before start turns) last

  knows_more : (turns : List Turn) (last : Journal) (turn : Turn) → Knows turns last → IsPosition limits turn.upload last turn.answer turn.after → Knows (turns ++ turn ∷ []) turn.after
  knows_more turns last turn so position =
      let uploads = map-append (λ (t : Turn). t.upload) turns (turn ∷ []) in
      let aside = map-append (λ (t : Turn). is_set_aside t.answer) turns (turn ∷ []) in
      let marks = map-append (λ (t : Turn). is_ack t.answer) turns (turn ∷ []) in
      let size : length (uploads_of turns) ≡ length turns = length-map turns (λ (t : Turn). t.upload) in
      let more = so_far_more once limits start (uploads_of turns) (aside_of turns) (map (λ (t : Turn). is_ack t.answer) turns) (journal_before start turns) last so
      turn.upload turn.answer turn.after position (journal_before start (turns ++ turn ∷ []))
      (λ i low. before_same start turns turn i (omega (arith, low, size)))
      (λ i high. before_last start turns turn i (omega (arith, high, size))) in
      subst (λ (us : List (List ℕ)). SoFar limits start us (aside_of (turns ++ turn ∷ [])) (map (λ (t : Turn). is_ack t.answer) (turns ++ turn ∷ [])) (journal_before start (turns ++ turn ∷ [])) turn.after) (sym uploads)
      (subst (λ (fs : List Bool). SoFar limits start (uploads_of turns ++ turn.upload ∷ []) fs (map (λ (t : Turn). is_ack t.answer) (turns ++ turn ∷ [])) (journal_before start (turns ++ turn ∷ [])) turn.after) (sym aside)
      (subst (λ (ms : List Bool). SoFar limits start (uploads_of turns ++ turn.upload ∷ []) (aside_of turns ++ is_set_aside turn.answer ∷ []) ms (journal_before start (turns ++ turn ∷ [])) turn.after) (sym marks) more))

  knows_all : (rest turns : List Turn) (last : Journal) → Knows turns last → IsChain limits last rest → (end : Journal) × Knows (turns ++ rest) end
  knows_all [] turns last so chain = (last, subst (λ (ts : List Turn). Knows ts last) (sym (append-nil turns)) so)
  knows_all (turn ∷ rest) turns last so (position, chain) =
      let more = knows_all rest (turns ++ turn ∷ []) turn.after (knows_more turns last turn so position) chain in
      (more.0, subst (λ (ts : List Turn). Knows ts more.0) (append_assoc turns (turn ∷ []) rest) more.1)

  -- what is stored before a position is stored before each later one
  later : (uploads : List (List ℕ)) (marks : List Bool) (i j : ℕ) (e : LogEntry) → i ≤ j → StoredBefore limits start uploads marks i e → StoredBefore limits start uploads marks j e
  later uploads marks i j e low h =
      ⊎_elim (λ s. inl s)
      (λ w. inr (record { earlier = w.earlier; before = omega (arith, w.before, low); marked = w.marked; says = w.says })) h

  taken : (turns : List Turn) (last : Journal) → Knows turns last → AreTaken limits start turns
  taken turns last so =
      let marks = same_marks turns in
      let size : length (uploads_of turns) ≡ length turns = length-map turns (λ (t : Turn). t.upload) in
      record {
        accepted = subst (λ (ms : List Bool). AreAccepted limits start (uploads_of turns) (aside_of turns) ms) marks so.accepted;
        stored = λ i low. subst (λ (ms : List Bool). IsStoredBefore limits start (uploads_of turns) ms i (journal_before start turns i)) marks (so.stored i (omega (arith, low, size)));
        kept = λ i j low high e s.
            (so.stored j (omega (arith, high, size)) e).1
            (later (uploads_of turns) (map (λ (t : Turn). is_ack t.answer) turns) i j e low ((so.stored i (omega (arith, low, high, size)) e).0 s));
      }

  pub chain_taken : (turns : List Turn) → IsChain limits start turns → AreTaken limits start turns
  chain_taken turns chain =
      let all = knows_all turns [] start (so_far_none limits start (journal_before start []) (λ i. refl)) chain in
      taken turns all.0 all.1
