-- Laws of the lines of a text.
use Rattle.std.proofs.Common.{◌≡◌, ◌==◌, ℕ, Bool, true, false, List, ◌∷◌, refl}
use Rattle.jc_command_shared.specs.Lines.{lines_of}

-- a byte in front that is no newline is one more of the first line
pub one_more : (b : ℕ) (text : List ℕ) (line : List ℕ) (lines : List (List ℕ)) → (b == 10 ≡ true → ⊥) → lines_of text ≡ line ∷ lines
    → lines_of (b ∷ text) ≡ (b ∷ line) ∷ lines
unfolding lines_of
one_more b text line lines other rest = go (b == 10) refl
  where
    go : (is : Bool) → b == 10 ≡ is → lines_of (b ∷ text) ≡ (b ∷ line) ∷ lines
    go true e = absurd (other e)
    go false e = rw (e, rest) refl
