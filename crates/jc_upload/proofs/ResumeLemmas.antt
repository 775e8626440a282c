-- Texts of resume points: what is read of them is what is written, and what is written is read again.
use Rattle.std.proofs.Common.{◌≡◌, ℕ, ◌^◌, ◌<◌, ◌&&◌, ltb, eqb, List, [], ◌∷◌, ◌++◌, Option, Some, None, decimal, refl, sym, ap, subst, ◌∙◌, arith}
use Rattle.std.specs.Prelude.{codes, IfSome}
use Rattle.std.proofs.lemmas.Bool.{and_parts, eqb-true, lt-ltb, ltb-true}
use Rattle.std.proofs.lemmas.Option.{cond_some}
use Rattle.jc_base.specs.declared.id.Id128.{Id128}
use Rattle.jc_base.specs.declared.id.Key.{Key}
use Rattle.jc_upload.specs.Answer.{IsPair}
use Rattle.jc_upload.specs.Resume.{Point, HasLast, IsPoint, key_of, resume_text}
use Rattle.jc_upload.specs.Reading.{same_bytes, word_at, number_at, pair_at, point_of, point_at, resume_at}
use Rattle.jc_upload.specs.WordLaws.{IsHigh, high_none, high_more}
use Rattle.jc_upload.proofs.WordLemmas.{same_is}
use Rattle.jc_upload.proofs.PartLemmas.{bind_some, some_is, is_taken, word_again, word_found, number_at_found, number_at_again, pair_then, pair_found, pair_again}
use Rattle.jc_upload.proofs.AnswerLemmas.{all_found}

abbrev point_with : ℕ → Option Key → Point
point_with position last = record { position = position; last = last }

-- the text behind its first word
abbrev point_rest : ℕ → Option (Id128 × ℕ) → List ℕ
point_rest position pair = decimal position ++ 32 ∷ pair_then pair 10 []

abbrev IsText : ℕ → Option (Id128 × ℕ) → Point → Type 0
IsText position pair point = IsPoint point × (codes "resume" ++ 32 ∷ point_rest position pair ≡ resume_text point)

-- ---- what is read

of_found : (position : ℕ) (pair : Option (Id128 × ℕ)) (point : Point) → position < 2 ^ 64 → IfSome pair IsPair
    → point_of position pair ≡ Some point → IsText position pair point
of_found position None point small ok e =
    let taken = cond_some (eqb position 0) (point_with position None) point e in
    subst (IsText position None) taken.1
    (record { has_last = eqb-true position 0 taken.0; position_in = small }, refl)
of_found position (Some pair) point small ok e =
    let behind = ltb 0 position in
    let positive = ltb 0 pair.1 in
    let fits = ltb pair.1 (2 ^ 63) in
    let taken = cond_some (behind && positive && fits) (point_with position (Some (key_of pair))) point e in
    let parts = and_parts (behind && positive) fits taken.0 in
    let first = and_parts behind positive parts.0 in
    subst (IsText position (Some pair)) taken.1 (
      record {
        has_last = (ltb-true 0 position first.0, record { id = ok.id; positive = ltb-true 0 pair.1 first.1; small = ltb-true pair.1 (2 ^ 63) parts.1 });
        position_in = small;
      },
      refl,
    )

point_found : (bytes : List ℕ) (point : Point) → point_at bytes ≡ Some point
    → IsPoint point × (codes "resume" ++ 32 ∷ bytes ≡ resume_text point)
unfolding point_at
point_found bytes point e =
    let position = bind_some (number_at 32 bytes) _ point e in
    let last = bind_some (pair_at 10 position.0.1) _ point position.2 in
    let made = bind_some (point_of position.0.0 last.0.0) _ point last.2 in
    let all = all_found made.0 last.0.1 point made.2 in
    let a = number_at_found 32 bytes position.0 position.1 in
    let b = pair_found 10 position.0.1 last.0 last.1 in
    let c = of_found position.0.0 last.0.0 made.0 a.0 b.0 made.1 in
    let line : bytes ≡ point_rest position.0.0 last.0.0 =
    a.1 ∙ ap (λ r. decimal position.0.0 ++ 32 ∷ r) (b.1 ∙ ap (pair_then last.0.0 10) all.1) in
    subst (λ p. IsPoint p × (codes "resume" ++ 32 ∷ bytes ≡ resume_text p)) all.0
    (c.0, ap (λ r. codes "resume" ++ 32 ∷ r) line ∙ c.1)

pub resume_found : (text : List ℕ) (point : Point) → resume_at text ≡ Some point → IsPoint point × (text ≡ resume_text point)
unfolding resume_at
resume_found text point e =
    let word = bind_some (word_at 32 text) _ point e in
    let whole = word_found 32 text word.0 word.1 in
    let rest = word.0.1 in
    let taken = is_taken (same_bytes word.0.0 (codes "resume")) (point_at rest) point word.2 in
    let found = point_found rest point taken.1 in
    (found.0, whole ∙ ap (λ w. w ++ 32 ∷ rest) (same_is word.0.0 (codes "resume") taken.0) ∙ found.1)

pub resume_read : (text : List ℕ) (r : Option Point) → r ≡ resume_at text → IfSome r (λ point. IsPoint point × (text ≡ resume_text point))
resume_read text (Some point) e = resume_found text point (sym e)
resume_read text None e = tt

-- ---- what is written

high_resume : IsHigh (codes "resume")
high_resume =
    high_more 114 (codes "esume") (omega arith)
    (high_more 101 (codes "sume") (omega arith)
    (high_more 115 (codes "ume") (omega arith)
    (high_more 117 (codes "me") (omega arith)
    (high_more 109 (codes "e") (omega arith)
    (high_more 101 [] (omega arith) high_none)))))

point_again : (position : ℕ) (last : Option Key) → position < 2 ^ 64 → HasLast position last
    → resume_at (resume_text (point_with position last)) ≡ Some (point_with position last)
unfolding resume_at point_at
point_again position None small lawful =
    rw (
      word_again 32 (codes "resume") (point_rest position None) (omega arith) high_resume,
      number_at_again 32 position (45 ∷ 32 ∷ 45 ∷ 10 ∷ []) (omega arith) small,
      pair_again 10 None [] (omega arith) tt,
      lawful,
    ) refl
point_again position (Some key) small lawful =
    let pair : Id128 × ℕ = (key.seqnum_id, key.seqnum) in
    rw (
      word_again 32 (codes "resume") (point_rest position (Some pair)) (omega arith) high_resume,
      number_at_again 32 position (pair_then (Some pair) 10 []) (omega arith) small,
      pair_again 10 (Some pair) [] (omega arith) (record { id = lawful.1.id; number = omega (arith, lawful.1.small) }),
      lt-ltb 0 position lawful.0,
      lt-ltb 0 key.seqnum lawful.1.positive,
      lt-ltb key.seqnum (2 ^ 63) lawful.1.small,
    ) refl

pub resume_again : (point : Point) → IsPoint point → resume_at (resume_text point) ≡ Some point
resume_again point ok = point_again point.position point.last ok.position_in ok.has_last

pub same_point : (a b : Point) → IsPoint a → IsPoint b → resume_text a ≡ resume_text b → a ≡ b
same_point a b ok fine e = some_is a b (sym (resume_again a ok) ∙ ap resume_at e ∙ resume_again b fine)
