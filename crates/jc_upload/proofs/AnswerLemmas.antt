-- Lines of answers: what is read of them is what is written, and what is written is read again.
use Rattle.std.proofs.Common.{◌≡◌, ℕ, ◌^◌, ◌<◌, ltb, List, [], ◌∷◌, ◌++◌, Option, Some, None, decimal, refl, sym, ap, subst, ◌∙◌, inl, inr, arith}
use Rattle.std.specs.Prelude.{codes, IfSome}
use Rattle.std.proofs.lemmas.Bool.{lt-ltb, ltb-true}
use Rattle.hex.specs.Hex.{encode_lower}
use Rattle.jc_base.specs.declared.id.Id128.{Id128}
use Rattle.jc_upload.specs.declared.answer.Answer.{Answer}
use Rattle.jc_upload.specs.declared.answer.Answer.TheVariants.{Ack, No}
use Rattle.jc_upload.specs.Answer.{IsAnswer, IsAck, IsNo, answer_text}
use Rattle.jc_upload.specs.Reading.{same_bytes, all_of, word_at, number_at, id_at, pair_at, ack_at, no_at, answer_at}
use Rattle.jc_upload.specs.WordLaws.{high_ack, high_no}
use Rattle.jc_upload.proofs.WordLemmas.{same_is}
use Rattle.jc_upload.proofs.PartLemmas.{bind_some, some_is, chosen, word_again, word_found, number_at_found, number_at_again, id_at_found, id_at_again, pair_then, pair_found, pair_again}

-- nothing is behind what was read
pub all_found : {A : Type 0} (x : A) (bytes : List ℕ) (y : A) → all_of x bytes ≡ Some y → (x ≡ y) × (bytes ≡ [])
all_found x [] y e = (some_is x y e, refl)
all_found x (b ∷ bytes) y e = absurd cc

-- ---- acks

-- the line behind its first word
abbrev ack_rest : Id128 → (start count new left : ℕ) → List ℕ → List ℕ
ack_rest source start count new left rest =
    encode_lower source.0 ++ 32 ∷ (decimal start ++ 32 ∷ (decimal count ++ 32 ∷ (decimal new ++ 32 ∷ (decimal left ++ 10 ∷ rest))))

ack_found : (bytes : List ℕ) (answer : Answer) → ack_at bytes ≡ Some answer → IsAnswer answer × (codes "ack" ++ 32 ∷ bytes ≡ answer_text answer)
unfolding ack_at
ack_found bytes answer e =
    let source = bind_some (id_at 32 bytes) _ answer e in
    let start = bind_some (number_at 32 source.0.1) _ answer source.2 in
    let count = bind_some (number_at 32 start.0.1) _ answer start.2 in
    let new = bind_some (number_at 32 count.0.1) _ answer count.2 in
    let left = bind_some (number_at 10 new.0.1) _ answer new.2 in
    let all = all_found _ left.0.1 answer left.2 in
    let a = id_at_found 32 bytes source.0 source.1 in
    let b = number_at_found 32 source.0.1 start.0 start.1 in
    let c = number_at_found 32 start.0.1 count.0 count.1 in
    let d = number_at_found 32 count.0.1 new.0 new.1 in
    let f = number_at_found 10 new.0.1 left.0 left.1 in
    let line : bytes ≡ ack_rest source.0.0 start.0.0 count.0.0 new.0.0 left.0.0 [] =
    a.1 ∙ ap (λ r. encode_lower source.0.0.0 ++ 32 ∷ r)
    (b.1 ∙ ap (λ r. decimal start.0.0 ++ 32 ∷ r)
    (c.1 ∙ ap (λ r. decimal count.0.0 ++ 32 ∷ r)
    (d.1 ∙ ap (λ r. decimal new.0.0 ++ 32 ∷ r)
    (f.1 ∙ ap (λ r. decimal left.0.0 ++ 10 ∷ r) all.1)))) in
    subst (λ w. IsAnswer w × (codes "ack" ++ 32 ∷ bytes ≡ answer_text w)) all.0
    (record { source_is = a.0; start_in = b.0; count_in = c.0; new_in = d.0; left_in = f.0 }, ap (λ r. codes "ack" ++ 32 ∷ r) line)

ack_again : (source : Id128) (start count new left : ℕ) → IsAck source start count new left
    → ack_at (ack_rest source start count new left []) ≡ Some (Ack source start count new left)
unfolding ack_at
ack_again source start count new left ok =
    rw (
      id_at_again 32 source (decimal start ++ 32 ∷ (decimal count ++ 32 ∷ (decimal new ++ 32 ∷ (decimal left ++ 10 ∷ [])))) (omega arith) ok.source_is,
      number_at_again 32 start (decimal count ++ 32 ∷ (decimal new ++ 32 ∷ (decimal left ++ 10 ∷ []))) (omega arith) ok.start_in,
      number_at_again 32 count (decimal new ++ 32 ∷ (decimal left ++ 10 ∷ [])) (omega arith) ok.count_in,
      number_at_again 32 new (decimal left ++ 10 ∷ []) (omega arith) ok.new_in,
      number_at_again 10 left [] (omega arith) ok.left_in,
    ) refl

-- ---- refusals

abbrev no_rest : Option (Id128 × ℕ) → (code place : ℕ) → List ℕ → List ℕ
no_rest of code place rest = pair_then of 32 (decimal code ++ 32 ∷ (decimal place ++ 10 ∷ rest))

no_text : (of : Option (Id128 × ℕ)) (code place : ℕ) → codes "no" ++ 32 ∷ no_rest of code place [] ≡ answer_text (No of code place)
no_text (Some pair) code place = refl
no_text None code place = refl

no_found : (bytes : List ℕ) (answer : Answer) → no_at bytes ≡ Some answer → IsAnswer answer × (codes "no" ++ 32 ∷ bytes ≡ answer_text answer)
unfolding no_at
no_found bytes answer e =
    let of = bind_some (pair_at 32 bytes) _ answer e in
    let code = bind_some (number_at 32 of.0.1) _ answer of.2 in
    let place = bind_some (number_at 10 code.0.1) _ answer code.2 in
    elim (chosen (ltb code.0.0 (2 ^ 16)) _ None (Some answer) place.2) [
      | inl small ↦
          let all = all_found _ place.0.1 answer small.1 in
          let a = pair_found 32 bytes of.0 of.1 in
          let b = number_at_found 32 of.0.1 code.0 code.1 in
          let c = number_at_found 10 code.0.1 place.0 place.1 in
          let line : bytes ≡ no_rest of.0.0 code.0.0 place.0.0 [] =
          a.1 ∙ ap (pair_then of.0.0 32)
          (b.1 ∙ ap (λ r. decimal code.0.0 ++ 32 ∷ r) (c.1 ∙ ap (λ r. decimal place.0.0 ++ 10 ∷ r) all.1)) in
          subst (λ w. IsAnswer w × (codes "no" ++ 32 ∷ bytes ≡ answer_text w)) all.0 (
            record { of_is = a.0; code_in = ltb-true code.0.0 (2 ^ 16) small.0; place_in = c.0 },
            ap (λ r. codes "no" ++ 32 ∷ r) line ∙ no_text of.0.0 code.0.0 place.0.0,
          )
      | inr big ↦ absurd (cc big.1)
    ]

no_again : (of : Option (Id128 × ℕ)) (code place : ℕ) → IsNo of code place
    → no_at (no_rest of code place []) ≡ Some (No of code place)
unfolding no_at
no_again of code place ok =
    let small : code < 2 ^ 64 = omega (arith, ok.code_in) in
    rw (
      pair_again 32 of (decimal code ++ 32 ∷ (decimal place ++ 10 ∷ [])) (omega arith) ok.of_is,
      number_at_again 32 code (decimal place ++ 10 ∷ []) (omega arith) small,
      number_at_again 10 place [] (omega arith) ok.place_in,
      lt-ltb code (2 ^ 16) ok.code_in,
    ) refl

-- ---- answers

pub answer_found : (line : List ℕ) (answer : Answer) → answer_at line ≡ Some answer → IsAnswer answer × (line ≡ answer_text answer)
unfolding answer_at
answer_found line answer e =
    let word = bind_some (word_at 32 line) _ answer e in
    let whole = word_found 32 line word.0 word.1 in
    let rest = word.0.1 in
    elim (chosen (same_bytes word.0.0 (codes "ack")) _ _ (Some answer) word.2) [
      | inl ack ↦
          let found = ack_found rest answer ack.1 in
          (found.0, whole ∙ ap (λ w. w ++ 32 ∷ rest) (same_is word.0.0 (codes "ack") ack.0) ∙ found.1)
      | inr other ↦
          elim (chosen (same_bytes word.0.0 (codes "no")) _ None (Some answer) other.1) [
            | inl refused ↦
                let found = no_found rest answer refused.1 in
                (found.0, whole ∙ ap (λ w. w ++ 32 ∷ rest) (same_is word.0.0 (codes "no") refused.0) ∙ found.1)
            | inr none ↦ absurd (cc none.1)
          ]
    ]

pub answer_again : (answer : Answer) → IsAnswer answer → answer_at (answer_text answer) ≡ Some answer
unfolding answer_at
answer_again (Ack source start count new left) ok =
    rw (word_again 32 (codes "ack") (ack_rest source start count new left []) (omega arith) high_ack) (ack_again source start count new left ok)
answer_again (No of code place) ok =
    rw (← no_text of code place) (rw (word_again 32 (codes "no") (no_rest of code place []) (omega arith) high_no) (no_again of code place ok))

-- what the contract of `read` says of what it found
pub answer_read : (line : List ℕ) (r : Option Answer) → r ≡ answer_at line → IfSome r (λ answer. IsAnswer answer × (line ≡ answer_text answer))
answer_read line (Some answer) e = answer_found line answer (sym e)
answer_read line None e = tt

pub same_answer : (a b : Answer) → IsAnswer a → IsAnswer b → answer_text a ≡ answer_text b → a ≡ b
same_answer a b ok fine e = some_is a b (sym (answer_again a ok) ∙ ap answer_at e ∙ answer_again b fine)
