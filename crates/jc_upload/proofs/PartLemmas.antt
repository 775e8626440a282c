-- The parts of a line: a word with the byte that ends it, and what is made of such words.
use Rattle.std.proofs.Common.{◌≡◌, ℕ, ◌+◌, ◌^◌, ◌<◌, Bool, true, false, cond, eqb, List, [], ◌∷◌, ◌++◌, length, get_or, take, drop, Option, Some, None, decimal, refl, sym, ap, subst, ◌∙◌, inl, inr, arith, add-one}
use Rattle.std.specs.Prelude.{◌⊎◌, IfSome, codes}
use Rattle.std.specs.List.{position, position_or_len}
use Rattle.std.proofs.Math.Seq.{drop-cons, drop-append-add}
use Rattle.std.proofs.lemmas.Bool.{lt-ltb, eqb-true}
use Rattle.std.proofs.lemmas.Option.{cond_some}
use Rattle.std.proofs.lemmas.List.{length-append, get_or_append_left, get_or_at, take_at, take-append-drop}
use Rattle.std.proofs.lemmas.List.Quantifiers.{position-Some}
use Rattle.std.proofs.lemmas.List.Sums.{position_or_len_is}
use Rattle.hex.specs.Hex.{encode_lower}
use Rattle.jc_base.specs.Number.{IsId}
use Rattle.jc_base.specs.declared.id.Id128.{Id128}
use Rattle.jc_upload.specs.Answer.{IsPair}
use Rattle.jc_upload.specs.Reading.{◌>>=◌, number_of, id_of, same_bytes, word_at, number_at, id_at, dash_at, pair_at}
use Rattle.jc_upload.proofs.WordLemmas.{same_is, number_found, number_again, id_found, id_again}
use Rattle.jc_upload.specs.WordLaws.{IsHigh, high_dash, high_decimal, high_id, id_digits}

-- the value of a step that gave one
pub bind_some : {A B : Type 0} (o : Option A) (f : A → Option B) (y : B) → (o >>= f) ≡ Some y → (x : A) × (o ≡ Some x) × (f x ≡ Some y)
bind_some (Some x) f y e = (x, refl, e)
bind_some None f y e = absurd cc

abbrev some : {A : Type 0} → A → Option A
some x = Some x

pub some_is : {A : Type 0} (x y : A) → some x ≡ some y → x ≡ y
some_is x y e = cc

pub false_unless : (b : Bool) → (b ≡ true → ⊥) → b ≡ false
false_unless true h = absurd (h refl)
false_unless false h = refl

eqb_self : (n : ℕ) → eqb n n ≡ true
eqb_self n = grind (arith)

-- which way a test went
pub chosen : {A : Type 0} (b : Bool) (x y z : A) → cond b x y ≡ z → ((b ≡ true) × (x ≡ z)) ⊎ ((b ≡ false) × (y ≡ z))
chosen true x y z e = inl (refl, e)
chosen false x y z e = inr (refl, e)

pub is_taken : {A : Type 0} (b : Bool) (o : Option A) (y : A) → cond b o None ≡ Some y → (b ≡ true) × (o ≡ Some y)
is_taken true o y e = (refl, e)
is_taken false o y e = absurd cc

-- ---- words

pub word_again : (end : ℕ) (word rest : List ℕ) → end < 45 → IsHigh word → word_at end (word ++ end ∷ rest) ≡ Some (word, rest)
unfolding word_at
word_again end word rest low high =
    let bytes = word ++ end ∷ rest in
    let len : length word < length bytes = omega (arith, length-append word (end ∷ rest)) in
    let place : position_or_len (λ b. eqb b end) bytes ≡ length word =
    position_or_len_is (λ b. eqb b end) bytes (length word) 0 (omega arith)
    (λ k below. false_unless _ (λ is.
    let here = eqb-true (get_or bytes k 0) end is in
    let there = get_or_append_left word (end ∷ rest) 0 k below in
    let bound = high k below in
    absurd (omega arith)))
    (λ _. rw (get_or_at word end rest 0 (length word) refl) (eqb_self end)) in
    let found : position (λ b. eqb b end) bytes ≡ Some (length word) = rw (place, lt-ltb (length word) (length bytes) len) refl in
    rw found (rw (take_at word (end ∷ rest) (length word) refl, drop-append-add word (end ∷ rest) 1) refl)

pub word_found : (end : ℕ) (bytes : List ℕ) (x : List ℕ × List ℕ) → word_at end bytes ≡ Some x → bytes ≡ x.0 ++ end ∷ x.1
unfolding word_at
word_found end bytes x e =
    let b = bind_some (position (λ b. eqb b end) bytes) _ x e in
    let at = position-Some (λ b. eqb b end) bytes b.0 0 b.1 in
    let is = some_is _ _ b.2 in
    let here : get_or bytes b.0 0 ≡ end = eqb-true _ end at.1 in
    let cut : drop b.0 bytes ≡ end ∷ drop (b.0 + 1) bytes = drop-cons bytes b.0 0 at.0 ∙ rw (here, add-one) refl in
    subst (λ (p : List ℕ × List ℕ). bytes ≡ p.0 ++ end ∷ p.1) is (sym (take-append-drop b.0 bytes) ∙ ap (λ r. take b.0 bytes ++ r) cut)

-- ---- numbers and ids

pub number_at_found : (end : ℕ) (bytes : List ℕ) (x : ℕ × List ℕ) → number_at end bytes ≡ Some x
    → (x.0 < 2 ^ 64) × (bytes ≡ decimal x.0 ++ end ∷ x.1)
unfolding number_at
number_at_found end bytes x e =
    let word = bind_some (word_at end bytes) _ x e in
    let n = bind_some (number_of word.0.0) _ x word.2 in
    let found = number_found word.0.0 n.0 n.1 in
    subst (λ (p : ℕ × List ℕ). (p.0 < 2 ^ 64) × (bytes ≡ decimal p.0 ++ end ∷ p.1)) (some_is _ _ n.2)
    (found.0, word_found end bytes word.0 word.1 ∙ ap (λ w. w ++ end ∷ word.0.1) found.1)

pub number_at_again : (end n : ℕ) (rest : List ℕ) → end < 45 → n < 2 ^ 64 → number_at end (decimal n ++ end ∷ rest) ≡ Some (n, rest)
unfolding number_at
number_at_again end n rest low small =
    rw (word_again end (decimal n) rest low (high_decimal n small), number_again n small) refl

pub id_at_found : (end : ℕ) (bytes : List ℕ) (x : Id128 × List ℕ) → id_at end bytes ≡ Some x
    → IsId x.0.0 × (bytes ≡ encode_lower x.0.0 ++ end ∷ x.1)
unfolding id_at
id_at_found end bytes x e =
    let word = bind_some (word_at end bytes) _ x e in
    let id = bind_some (id_of word.0.0) _ x word.2 in
    let found = id_found word.0.0 id.0 id.1 in
    subst (λ (p : Id128 × List ℕ). IsId p.0.0 × (bytes ≡ encode_lower p.0.0 ++ end ∷ p.1)) (some_is _ _ id.2)
    (found.0, word_found end bytes word.0 word.1 ∙ ap (λ w. w ++ end ∷ word.0.1) found.1)

pub id_at_again : (end : ℕ) (id : Id128) (rest : List ℕ) → end < 45 → IsId id.0 → id_at end (encode_lower id.0 ++ end ∷ rest) ≡ Some (id, rest)
unfolding id_at
id_at_again end id rest low ok =
    rw (word_again end (encode_lower id.0) rest low (high_id id.0 ok), id_again id ok) refl

-- ---- dashes

dash_found : (end : ℕ) (bytes rest : List ℕ) → dash_at end bytes ≡ Some rest → bytes ≡ 45 ∷ end ∷ rest
unfolding dash_at
dash_found end bytes rest e =
    let word = bind_some (word_at end bytes) _ rest e in
    let taken = cond_some (same_bytes word.0.0 (codes "-")) word.0.1 rest word.2 in
    word_found end bytes word.0 word.1
    ∙ ap (λ w. w ++ end ∷ word.0.1) (same_is word.0.0 (codes "-") taken.0) ∙ ap (λ r. 45 ∷ end ∷ r) taken.1

dash_again : (end : ℕ) (rest : List ℕ) → end < 45 → dash_at end (45 ∷ end ∷ rest) ≡ Some rest
unfolding dash_at
dash_again end rest low = rw (word_again end (45 ∷ []) rest low high_dash) refl

-- ---- an id and a number, or dashes

-- the pair's words, and what is behind them
abbrev pub pair_then : Option (Id128 × ℕ) → ℕ → List ℕ → List ℕ
pair_then (Some pair) end rest = encode_lower pair.0.0 ++ 32 ∷ (decimal pair.1 ++ end ∷ rest)
pair_then None end rest = 45 ∷ 32 ∷ 45 ∷ end ∷ rest

pub pair_found : (end : ℕ) (bytes : List ℕ) (x : Option (Id128 × ℕ) × List ℕ) → pair_at end bytes ≡ Some x
    → IfSome x.0 IsPair × (bytes ≡ pair_then x.0 end x.1)
unfolding pair_at
pair_found end bytes x e =
    let Found : Option (Id128 × ℕ) × List ℕ → Type 0 = λ p. IfSome p.0 IsPair × (bytes ≡ pair_then p.0 end p.1) in
    let word = bind_some (word_at 32 bytes) _ x e in
    let whole = word_found 32 bytes word.0 word.1 in
    elim (chosen (same_bytes word.0.0 (codes "-")) _ _ (Some x) word.2) [
      | inl dashes ↦
          let rest = bind_some (dash_at end word.0.1) _ x dashes.1 in
          let first = ap (λ w. w ++ 32 ∷ word.0.1) (same_is word.0.0 (codes "-") dashes.0) in
          subst Found (some_is _ _ rest.2) (tt, whole ∙ first ∙ ap (λ r. 45 ∷ 32 ∷ r) (dash_found end word.0.1 rest.0 rest.1))
      | inr pair ↦
          let id = bind_some (id_of word.0.0) _ x pair.1 in
          let n = bind_some (number_at end word.0.1) _ x id.2 in
          let is_id = id_found word.0.0 id.0 id.1 in
          let is_n = number_at_found end word.0.1 n.0 n.1 in
          subst Found (some_is _ _ n.2)
          (record { id = is_id.0; number = is_n.0 }, whole ∙ ap (λ w. w ++ 32 ∷ word.0.1) is_id.1 ∙ ap (λ r. encode_lower id.0.0 ++ 32 ∷ r) is_n.1)
    ]

pub pair_again : (end : ℕ) (pair : Option (Id128 × ℕ)) (rest : List ℕ) → end < 45 → IfSome pair IsPair
    → pair_at end (pair_then pair end rest) ≡ Some (pair, rest)
unfolding pair_at
pair_again end (Some pair) rest low ok =
    let digits = encode_lower pair.0.0 in
    let no_dash : same_bytes digits (codes "-") ≡ false = false_unless _ (λ is.
    let one = ap length (same_is digits (codes "-") is) in
    let many = (id_digits pair.0.0 ok.id).0 in
    absurd (omega arith)) in
    rw (word_again 32 digits (decimal pair.1 ++ end ∷ rest) (omega arith) (high_id pair.0.0 ok.id), no_dash, id_again pair.0 ok.id, number_at_again end pair.1 rest low ok.number)
    refl
pair_again end None rest low ok =
    rw (word_again 32 (45 ∷ []) (45 ∷ end ∷ rest) (omega arith) high_dash) (rw (dash_again end rest low) refl)
