-- Words: what is read of them is what is written, and what is written is read again.
use Rattle.std.proofs.Common.{◌≡◌, ℕ, ◌^◌, ◌<◌, Bool, true, false, ◌&&◌, ltb, eqb, List, length, Option, Some, None, Result, Ok, Err, decimal, refl, sym, ap, subst, ◌∙◌}
use Rattle.std.specs.Prelude.{is_ok, MatchResult}
use Rattle.std.specs.Bool.{then_some}
use Rattle.std.specs.Result.{result_ok}
use Rattle.std.specs.Str.Parse.{digits_value}
use Rattle.std.proofs.lemmas.Bool.{and_parts, ltb-true, lt-ltb, eqb-true, false≢true}
use Rattle.std.proofs.lemmas.Option.{cond_some}
use Rattle.std.proofs.lemmas.Slice.Eq.{bytes_eq-Decides}
use Rattle.std.proofs.lemmas.Fmt.{decimal_is_IsNumeral}
use Rattle.std.proofs.lemmas.List.{get_or_default}
use Rattle.hex.specs.Hex.{decode_of, encode_lower, IsBytes}
use Rattle.hex.specs.declared.error.FromHexError.{FromHexError}
use Rattle.hex.proofs.HexLemmas.{decode_of-encode_lower, decode_of-ok}
use Rattle.jc_base.specs.Number.{IsId}
use Rattle.jc_base.specs.declared.id.Id128.{Id128}
use Rattle.jc_upload.specs.Reading.{number_of, id_from, id_of, same_bytes}
use Rattle.jc_upload.specs.WordLaws.{id_bytes}

abbrev some : {A : Type 0} → A → Option A
some x = Some x

pub same_is : (xs ys : List ℕ) → same_bytes xs ys ≡ true → xs ≡ ys
same_is xs ys = (bytes_eq-Decides xs ys).0

is_same : (xs ys : List ℕ) → xs ≡ ys → same_bytes xs ys ≡ true
is_same xs ys = (bytes_eq-Decides xs ys).1

some_is : {A : Type 0} {x y : A} → some x ≡ some y → x ≡ y
some_is e = cc

-- ---- numbers

pub number_found : (word : List ℕ) (n : ℕ) → number_of word ≡ Some n → (n < 2 ^ 64) × (word ≡ decimal n)
unfolding number_of
number_found word n e =
    let v = digits_value 10 word in
    let taken = cond_some (ltb v (2 ^ 64) && same_bytes (decimal v) word) v n e in
    let parts = and_parts (ltb v (2 ^ 64)) (same_bytes (decimal v) word) taken.0 in
    rw (← taken.1) (ltb-true v (2 ^ 64) parts.0, sym (same_is (decimal v) word parts.1))

pub number_again : (n : ℕ) → n < 2 ^ 64 → number_of (decimal n) ≡ Some n
unfolding number_of
number_again n small =
    let value = (decimal_is_IsNumeral n small).1 in
    rw (value, lt-ltb n (2 ^ 64) small, is_same (decimal n) (decimal n) refl) refl

-- A word that is no plain decimal, and one that is the decimal of what was parsed of it.
pub no_number : (word : List ℕ) → ((n : ℕ) → n < 2 ^ 64 → word ≡ decimal n → ⊥) → None ≡ number_of word
no_number word none = go (number_of word) refl
  where
    go : (o : Option ℕ) → number_of word ≡ o → None ≡ o
    go (Some n) e = let f = number_found word n e in absurd (none n f.0 f.1)
    go None e = refl

pub checked_number : (word : List ℕ) (parsed : ℕ) (same : Bool) → parsed < 2 ^ 64
    → (same ≡ true → word ≡ decimal parsed) → (word ≡ decimal parsed → same ≡ true)
    → ((n : ℕ) → n < 2 ^ 64 → word ≡ decimal n → Some parsed ≡ Some n)
    → then_some same parsed ≡ number_of word
checked_number word parsed true small is back only = sym (ap number_of (is refl) ∙ number_again parsed small)
checked_number word parsed false small is back only =
    no_number word (λ n fits e.
    let same : parsed ≡ n = cc (only n fits e) in
    absurd (false≢true (back (e ∙ ap decimal (sym same)))))

-- ---- ids

abbrev id_with : List ℕ → Id128
id_with bytes = record { 0 = bytes }

abbrev decoded_as : List ℕ → Result (List ℕ) FromHexError
decoded_as bytes = Ok bytes

ok_is : {xs ys : List ℕ} → decoded_as xs ≡ decoded_as ys → xs ≡ ys
ok_is e = cc

bytes_id : (id : List ℕ) → length id ≡ 16 → IsBytes id → IsId id
bytes_id id len bytes = (len, λ k d h. rw (get_or_default id k d 0 h) (bytes k))

id_from_found : (word : List ℕ) (r : Result (List ℕ) FromHexError) (id : Id128) → id_from word r ≡ Some id
    → (r ≡ Ok id.0) × (length id.0 ≡ 16) × (word ≡ encode_lower id.0)
id_from_found word (Ok bytes) id e =
    let taken = cond_some (eqb (length bytes) 16 && same_bytes (encode_lower bytes) word) (id_with bytes) id e in
    let parts = and_parts (eqb (length bytes) 16) (same_bytes (encode_lower bytes) word) taken.0 in
    rw (← taken.1) (refl, eqb-true (length bytes) 16 parts.0, sym (same_is (encode_lower bytes) word parts.1))
id_from_found word (Err f) id e = absurd cc

pub id_found : (word : List ℕ) (id : Id128) → id_of word ≡ Some id → IsId id.0 × (word ≡ encode_lower id.0)
unfolding id_of
id_found word id e =
    let f = id_from_found word (decode_of word) id e in
    (bytes_id id.0 f.1 (decode_of-ok word id.0 f.0).3, f.2)

pub id_again : (id : Id128) → IsId id.0 → id_of (encode_lower id.0) ≡ Some id
unfolding id_of
id_again id ok =
    rw (decode_of-encode_lower id.0 (id_bytes id.0 ok))
    (rw (ok.0, is_same (encode_lower id.0) (encode_lower id.0) refl) refl)

pub no_id : (word : List ℕ) → ((id : Id128) → IsId id.0 → word ≡ encode_lower id.0 → ⊥) → None ≡ id_of word
no_id word none = go (id_of word) refl
  where
    go : (o : Option Id128) → id_of word ≡ o → None ≡ o
    go (Some id) e = let f = id_found word id e in absurd (none id f.0 f.1)
    go None e = refl

pub checked_id : (word : List ℕ) (id : Id128) (same : Bool) → IsId id.0
    → (same ≡ true → word ≡ encode_lower id.0) → (word ≡ encode_lower id.0 → same ≡ true)
    → decode_of word ≡ Ok id.0 → then_some same id ≡ id_of word
checked_id word id true ok is back decoded = sym (ap id_of (is refl) ∙ id_again id ok)
checked_id word id false ok is back decoded =
    no_id word (λ other lawful e.
    let read = sym decoded ∙ ap decode_of e ∙ decode_of-encode_lower other.0 (id_bytes other.0 lawful) in
    absurd (false≢true (back (e ∙ ap encode_lower (sym (ok_is read))))))

-- ---- results

-- what a result says that gave no value, and one that gave this value
pub refused : {A E : Type 0} (r : Result A E) (P : A → Type 0) (Q : E → Type 0) (C : Type 0)
    → MatchResult r P Q → is_ok r ≡ false → ((e : E) → Q e → C) → C
refused (Ok x) P Q C h bad give = absurd (false≢true (sym bad))
refused (Err e) P Q C h bad give = give e h

pub taken : {A E : Type 0} (r : Result A E) (P : A → Type 0) (Q : E → Type 0) (x : A)
    → MatchResult r P Q → Some x ≡ result_ok r → P x
taken (Ok y) P Q x h is = subst P (sym (some_is is)) h
taken (Err e) P Q x h is = absurd cc
