-- The words of lines: no byte of theirs ends a word.
use Rattle.std.proofs.Common.{◌≡◌, ℕ, zero, suc, ◌^◌, ◌<◌, ◌≤◌, true, List, [], ◌∷◌, length, get_or, Some, None, decimal, ap, ◌∙◌, inl, inr, arith}
use Rattle.std.specs.Prelude.{◌*◌, codes}
use Rattle.std.specs.List.{All, AllPass}
use Rattle.std.proofs.lemmas.Bool.{cases_lt}
use Rattle.std.proofs.lemmas.Fmt.{decimal_is_IsNumeral}
use Rattle.std.proofs.lemmas.List.{get_or_past}
use Rattle.std.proofs.lemmas.Str.Parse.{digit_at}
use Rattle.hex.specs.Hex.{encode_lower, is_hex_digit, IsBytes}
use Rattle.hex.proofs.HexLemmas.{decode_of-encode_lower, decode_of-ok}
use Rattle.jc_base.specs.Number.{IsId}
use Rattle.jc_upload.specs.declared.answer.Answer.{Answer}
use Rattle.jc_upload.specs.declared.answer.Answer.TheVariants.{Ack, No}
use Rattle.jc_upload.specs.Answer.{IsAnswer, answer_words}

-- what an id is, byte by byte
pub id_bytes : (id : List ℕ) → IsId id → IsBytes id
id_bytes id ok i =
    elim (cases_lt i (length id)) [
      | inl below ↦ ok.1 i 0 below
      | inr past ↦ rw (get_or_past id i 0 past) (omega arith)
    ]

-- an id's digits are 32 digits, in either reading of that
pub id_digits : (id : List ℕ) → IsId id → (length (encode_lower id) ≡ 32) × AllPass is_hex_digit (encode_lower id)
id_digits id ok =
    let read = decode_of-ok (encode_lower id) id (decode_of-encode_lower id (id_bytes id ok)) in
    (read.2 ∙ ap (λ n. 2 * n) ok.0, read.1)

-- no byte of the word ends a word
abbrev pub IsHigh : List ℕ → Type 0
IsHigh word = (k : ℕ) → k < length word → 45 ≤ get_or word k 0

pub high_none : IsHigh []
high_none k below = absurd (omega arith)

pub high_more : (b : ℕ) (word : List ℕ) → 45 ≤ b → IsHigh word → IsHigh (b ∷ word)
high_more b word high others zero below = high
high_more b word high others (suc k) below = others k (omega arith)

pub high_decimal : (n : ℕ) → n < 2 ^ 64 → IsHigh (decimal n)
high_decimal n small k below =
    let digit = digit_at (decimal n) k (decimal_is_IsNumeral n small).0.1 below in
    omega arith

hex_high : (c : ℕ) → is_hex_digit c ≡ true → 45 ≤ c
hex_high c h = grind (arith)

pub high_id : (id : List ℕ) → IsId id → IsHigh (encode_lower id)
high_id id ok k below = hex_high _ ((id_digits id ok).1 k 0 below)

-- ---- the words of answers

pub high_ack : IsHigh (codes "ack")
high_ack = high_more 97 (codes "ck") (omega arith) (high_more 99 (codes "k") (omega arith) (high_more 107 [] (omega arith) high_none))

pub high_no : IsHigh (codes "no")
high_no = high_more 110 (codes "o") (omega arith) (high_more 111 [] (omega arith) high_none)

pub high_dash : IsHigh (codes "-")
high_dash = high_more 45 [] (omega arith) high_none

no_words : All IsHigh []
no_words k d below = absurd (omega (arith, below))

high_word : (word : List ℕ) (words : List (List ℕ)) → IsHigh word → All IsHigh words → All IsHigh (word ∷ words)
high_word word words high others zero d below = high
high_word word words high others (suc k) d below = others k d (omega (arith, below))

high_five : (a b c d e : List ℕ) → IsHigh a → IsHigh b → IsHigh c → IsHigh d → IsHigh e → All IsHigh (a ∷ b ∷ c ∷ d ∷ e ∷ [])
high_five a b c d e ha hb hc hd he =
    high_word a (b ∷ c ∷ d ∷ e ∷ []) ha (high_word b (c ∷ d ∷ e ∷ []) hb (high_word c (d ∷ e ∷ []) hc
    (high_word d (e ∷ []) hd (high_word e [] he no_words))))

-- no byte of an answer's words ends a word
pub high_words : (answer : Answer) → IsAnswer answer → All IsHigh (answer_words answer)
high_words (Ack source start count new left) ok =
    high_word (codes "ack") (encode_lower source.0 ∷ decimal start ∷ decimal count ∷ decimal new ∷ decimal left ∷ []) high_ack
    (high_five (encode_lower source.0) (decimal start) (decimal count) (decimal new) (decimal left) (high_id source.0 ok.source_is)
    (high_decimal start ok.start_in) (high_decimal count ok.count_in) (high_decimal new ok.new_in) (high_decimal left ok.left_in))
high_words (No (Some pair) code place) ok =
    high_five (codes "no") (encode_lower pair.0.0) (decimal pair.1) (decimal code) (decimal place) high_no
    (high_id pair.0.0 ok.of_is.id) (high_decimal pair.1 ok.of_is.number) (high_decimal code (omega (arith, ok.code_in)))
    (high_decimal place ok.place_in)
high_words (No None code place) ok =
    high_five (codes "no") (codes "-") (codes "-") (decimal code) (decimal place) high_no
    high_dash high_dash (high_decimal code (omega (arith, ok.code_in))) (high_decimal place ok.place_in)
