-- The first line of a text, and the lines behind it.
use Rattle.std.proofs.Common.{◌≡◌, ◌+◌, ◌<◌, ◌≤◌, ◌==◌, ℕ, zero, suc, Bool, true, false, List, [], ◌∷◌, length, take, drop, refl, arith, slice_index}
use Rattle.jc_command_shared.specs.Lines.{lines_of}
use Rattle.jc_command_shared.specs.LineLaws.{one_more}

last_one : (b : ℕ) → lines_of (b ∷ []) ≡ (b ∷ []) ∷ []
unfolding lines_of
last_one b = go (b == 10) refl
  where
    go : (is : Bool) → b == 10 ≡ is → lines_of (b ∷ []) ≡ (b ∷ []) ∷ []
    go true e = rw e refl
    go false e = rw e refl

-- without a newline there is one line
pub one_line : (text : List ℕ) → 0 < length text → ((k : ℕ) → 0 ≤ k → k < length text → slice_index text k == 10 ≡ true → ⊥)
    → lines_of text ≡ text ∷ []
one_line [] some none = absurd (omega arith)
one_line (b ∷ []) some none = last_one b
one_line (b ∷ c ∷ text) some none =
    one_more b (c ∷ text) (c ∷ text) [] (λ e. none 0 (omega arith) (omega arith) e)
    (one_line (c ∷ text) (omega arith) (λ k low high is. none (suc k) (omega arith) (omega arith) is))

first_line_of : (text : List ℕ) (at : ℕ) → at < length text → slice_index text at == 10 ≡ true
    → ((k : ℕ) → 0 ≤ k → k < at → slice_index text k == 10 ≡ true → ⊥)
    → lines_of text ≡ take (suc at) text ∷ lines_of (drop (suc at) text)
unfolding lines_of
first_line_of [] at within is none = absurd (omega arith)
first_line_of (b ∷ text) zero within is none = rw is refl
first_line_of (b ∷ text) (suc at) within is none =
    one_more b text (take (suc at) text) (lines_of (drop (suc at) text)) (λ e. none 0 (omega arith) (omega arith) e)
    (first_line_of text at (omega arith) is (λ k low high e. none (suc k) (omega arith) (omega arith) e))

-- a first newline ends the first line
pub first_line : (text : List ℕ) (at : ℕ) → at < length text → slice_index text at == 10 ≡ true
    → ((k : ℕ) → 0 ≤ k → k < at → slice_index text k == 10 ≡ true → ⊥)
    → lines_of text ≡ take (at + 1) text ∷ lines_of (drop (at + 1) text)
first_line text at within is none =
    let same : at + 1 ≡ suc at = omega arith in rw same (first_line_of text at within is none)
