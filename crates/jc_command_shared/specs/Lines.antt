-- A text's lines, and the lines of answers. (own)
use Rattle.std.specs.Prelude.{◌≡◌, ◌==◌, ℕ, List, [], ◌∷◌, map, if◌then◌else◌}
use Rattle.std.specs.List.{All}
use Rattle.jc_upload.specs.Answer.{IsAnswer, answer_text}
use Rattle.jc_upload.specs.declared.answer.Answer.{Answer}

-- one byte more in front of the first line
abbrev pub with_byte : ℕ → List (List ℕ) → List (List ℕ)
with_byte b [] = (b ∷ []) ∷ []
with_byte b (line ∷ lines) = (b ∷ line) ∷ lines

-- a text's lines, each with its newline, which only the last may lack
unfoldable pub lines_of : List ℕ → List (List ℕ)
lines_of [] = []
lines_of (b ∷ bytes) = if b == 10 then (b ∷ []) ∷ lines_of bytes else with_byte b (lines_of bytes)

-- The lines are those of these answers.
pub record AreAnswers (answers : List Answer) (text : List ℕ) : Type 0 where
  pub lines : lines_of text ≡ map answer_text answers
  pub each : All IsAnswer answers
