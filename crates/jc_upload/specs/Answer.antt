-- Answers to uploads, and their lines. (own)
use Rattle.std.specs.Prelude.{ℕ, ◌<◌, ◌^◌, List, [], ◌∷◌, ◌++◌, codes, decimal, Option, IfSome}
use Rattle.hex.specs.Hex.{encode_lower}
use Rattle.jc_base.specs.Number.{IsId}
use Rattle.jc_base.specs.declared.id.Id128.{Id128}
use Rattle.jc_upload.specs.Line.{line_of, pair_words}
use Rattle.jc_upload.specs.declared.answer.Answer.{Answer}
use Rattle.jc_upload.specs.declared.answer.Answer.TheVariants.{Ack, No}

abbrev pub answer_words : Answer → List (List ℕ)
answer_words (Ack source start count new left) =
    codes "ack" ∷ encode_lower source.0 ∷ decimal start ∷ decimal count ∷ decimal new ∷ decimal left ∷ []
answer_words (No of code place) = codes "no" ∷ pair_words of ++ decimal code ∷ decimal place ∷ []

-- An answer's one line.
abbrev pub answer_text : Answer → List ℕ
answer_text answer = line_of (answer_words answer)

-- ---- what has such a line

pub record IsPair (pair : Id128 × ℕ) : Type 0 where
  pub id : IsId pair.0.0
  pub number : pair.1 < 2 ^ 64

pub record IsAck (source : Id128) (start count new left : ℕ) : Type 0 where
  pub source_is : IsId source.0
  pub start_in : start < 2 ^ 64
  pub count_in : count < 2 ^ 64
  pub new_in : new < 2 ^ 64
  pub left_in : left < 2 ^ 64

pub record IsNo (of : Option (Id128 × ℕ)) (code place : ℕ) : Type 0 where
  pub of_is : IfSome of IsPair
  pub code_in : code < 2 ^ 16
  pub place_in : place < 2 ^ 64

abbrev pub IsAnswer : Answer → Type 0
IsAnswer (Ack source start count new left) = IsAck source start count new left
IsAnswer (No of code place) = IsNo of code place
