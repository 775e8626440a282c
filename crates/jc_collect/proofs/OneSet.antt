-- No two sets of positions are the accepted ones.
use Rattle.std.proofs.Common.{◌≡◌, ◌⊎◌, ℕ, zero, suc, ◌<◌, Bool, true, false, List, [], ◌∷◌, Some, length, refl, sym, ap, ◌∙◌, inl, inr, ⊎_elim, arith}
use Rattle.std.specs.List.{Contains}
use Rattle.jc_base.specs.declared.limits.Limits.{Limits}
use Rattle.jc_base.specs.Journal.{Journal}
use Rattle.jc_base.specs.LogEntry.{LogEntry}
use Rattle.jc_collect.specs.Accepted.{IsMarked, WasAccepted, StoredBefore, IsAcceptedAt, AreAccepted}
use Rattle.jc_collect.proofs.Lists.{some_same}

-- two sets of marks that mark the same positions
abbrev MarkSame : (p q : List Bool) → ℕ → Type 0
MarkSame p q i = (IsMarked p i → IsMarked q i) × (IsMarked q i → IsMarked p i)

same_head : (b c : Bool) → (Some b ≡ Some true → Some c ≡ Some true) × (Some c ≡ Some true → Some b ≡ Some true) → b ≡ c
same_head true c h = sym (some_same c true (h.0 refl))
same_head false true h = some_same false true (h.1 refl)
same_head false false h = refl

same_marks : (p q : List Bool) → length p ≡ length q → ((i : ℕ) → MarkSame p q i) → p ≡ q
same_marks [] [] long h = refl
same_marks [] (c ∷ q) long h = absurd (omega (arith, long))
same_marks (b ∷ p) [] long h = absurd (omega (arith, long))
same_marks (b ∷ p) (c ∷ q) long h =
    ap (λ x. x ∷ p) (same_head b c (h 0)) ∙ ap (λ l. c ∷ l) (same_marks p q (omega (arith, long)) (λ i. h (suc i)))

module _ (limits : Limits) (start : Journal) (uploads : List (List ℕ)) (aside : List Bool) where
  -- what is accepted at a position depends on the marks before it alone
  accepted_along : (p q : List Bool) (i : ℕ) → ((j : ℕ) → j < i → IsMarked q j → IsMarked p j)
      → IsAcceptedAt limits start uploads aside p i → IsAcceptedAt limits start uploads aside q i
  accepted_along p q i before h = record {
    passed = h.passed;
    reading = h.reading;
    says = h.says;
    left = h.left;
    ended = h.ended;
    agrees = λ e f in_e in_f. h.agrees e f (along e in_e) (along f in_f);
  }
    where
      was : (e : LogEntry) → WasAccepted limits uploads q i e → WasAccepted limits uploads p i e
      was e w = record { earlier = w.earlier; before = w.before; marked = before w.earlier w.before w.marked; says = w.says }

      along : (e : LogEntry) → StoredBefore limits start uploads q i e ⊎ Contains h.reading.entries e
          → StoredBefore limits start uploads p i e ⊎ Contains h.reading.entries e
      along e w = ⊎_elim (λ s. inl (⊎_elim (λ x. inl x) (λ x. inr (was e x)) s)) (λ c. inr c) w

  module _ (p q : List Bool) (a : AreAccepted limits start uploads aside p) (b : AreAccepted limits start uploads aside q) where
    mark_same : (n i : ℕ) → i < n → MarkSame p q i
    mark_same zero i h = absurd (omega (arith, h))
    mark_same (suc n) i h = (
      λ m. (b.are i).1 (accepted_along p q i (λ j below. (mark_same n j (omega (arith, h, below))).1) ((a.are i).0 m)),
      λ m. (a.are i).1 (accepted_along q p i (λ j below. (mark_same n j (omega (arith, h, below))).0) ((b.are i).0 m)),
    )

    pub one_set : p ≡ q
    one_set = same_marks p q (a.each ∙ sym b.each) (λ i. mark_same (suc i) i (omega arith))
