-- The lines of answers that were read.
use Rattle.std.proofs.Common.{◌≡◌, ◌∙◌, ℕ, List, [], ◌∷◌, ◌++◌, length, map, refl, ap, arith}
use Rattle.std.specs.List.{All}
use Rattle.jc_upload.specs.Answer.{IsAnswer, answer_text}
use Rattle.jc_upload.specs.declared.answer.Answer.{Answer}
use Rattle.jc_command_shared.specs.Lines.{AreAnswers, lines_of}

append_nil : (lines : List (List ℕ)) → lines ++ [] ≡ lines
append_nil [] = refl
append_nil (line ∷ lines) = ap (λ (more : List (List ℕ)). line ∷ more) (append_nil lines)

-- where no text is left, the lines are those of the answers
pub all_lines : (text rest : List ℕ) (answers : List Answer) → length rest ≡ 0
    → lines_of text ≡ map answer_text answers ++ lines_of rest → All IsAnswer answers → AreAnswers answers text
unfolding lines_of
all_lines text [] answers none lines each = record { lines = lines ∙ append_nil (map answer_text answers); each = each }
all_lines text (b ∷ rest) answers none lines each = absurd (omega arith)
