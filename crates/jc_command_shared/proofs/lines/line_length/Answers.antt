-- The first line ends at the first newline, or with the text.
use Rattle.std.proofs.Common.{◌≡◌, ◌∷◌, [], ap, length, refl, take, drop, List, ℕ}
use Rattle.jc_command_shared.proofs.FirstLine.{first_line, one_line}
use Rattle.jc_command_shared.specs.Lines.{lines_of}
use Rattle.jc_command_shared.proofs.lines.line_length.Goals as goal

pub returns-in-Some-clause-first : goal.returns-in-Some-clause-first
returns-in-Some-clause-first c =
    first_line c.args.text.now c.in-Some.at c.in-Some.ensures.0.high c.in-Some.ensures.1 c.in-Some.ensures.0.before

pub returns-in-None-clause-first : goal.returns-in-None-clause-first
unfolding lines_of
returns-in-None-clause-first c =
    rw (take_all c.args.text.now, drop_all c.args.text.now) (one_line c.args.text.now c.requires c.in-None.ensures)
  where
    take_all : (xs : List ℕ) → take (length xs) xs ≡ xs
    take_all [] = refl
    take_all (x ∷ xs) = ap (λ (ys : List ℕ). x ∷ ys) (take_all xs)

    drop_all : (xs : List ℕ) → drop (length xs) xs ≡ []
    drop_all [] = refl
    drop_all (x ∷ xs) = drop_all xs
