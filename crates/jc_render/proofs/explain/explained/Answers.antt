-- Explanations come behind what was told.
use Rattle.std.proofs.Common.{◌≡◌, ◌∷◌, [], ◌∙◌, List, ℕ, ap, inl, inr, map, refl, string_bytes, subst}
use Rattle.std.specs.List.{AllZip}
use Rattle.std.proofs.KnownBytes.{Keeps-refl}
use Rattle.jc_render.specs.Explanations.{IsSubjectOf}
use Rattle.jc_render.proofs.explain.explained.Goals as goal

-- copies of words are the same words
same_words : {X : Type 0} (v : X → List ℕ) (xs ys : List X) → AllZip (λ x y. v y ≡ v x) xs ys → map v ys ≡ map v xs
same_words v [] [] same = refl
same_words v [] (y ∷ ys) same = absurd same
same_words v (x ∷ xs) [] same = absurd same
same_words v (x ∷ xs) (y ∷ ys) (here, there) = rw here (ap (λ zs. v x ∷ zs) (same_words v xs ys there))

pub returns-clause-ended : goal.returns-clause-ended
returns-clause-ended g c = λ status other number.
    let copies : map string_bytes c.deref.result.now ≡ map string_bytes c.args.words.items =
    ap (λ xs. map string_bytes xs) c.deref.ensures.value ∙ same_words string_bytes c.args.words.items c.in-Ok.asked.items c.in-Ok.ensures.cases.0 in (
      g.E.Write.contents c.command-status.new.errors.inner,
      c.command-status.ensures.ended status other number,
      inr (
        c.into_seen-seen.result,
        c.deref-2.result.now,
        c.subject_of-subject.result,
        subst (λ (ws : List (List ℕ)). IsSubjectOf ws c.into_seen-seen.result c.subject_of-subject.result) copies c.subject_of-subject.ensures,
        c.tell.ensures,
      ),
    )

pub returns-in_default-clause-ended : goal.returns-in_default-clause-ended
returns-in_default-clause-ended g c = λ status other number. (
  g.E.Write.contents c.command-status.new.errors.inner,
  c.command-status.ensures.ended status other number,
  inl (Keeps-refl (g.E.Write.contents c.command-status.new.errors.inner)),
)

pub returns-clause-failed : goal.returns-clause-failed
returns-clause-failed g c = c.command-status.ensures.failed

pub returns-in_default-clause-failed : goal.returns-in_default-clause-failed
returns-in_default-clause-failed g c = c.command-status.ensures.failed
