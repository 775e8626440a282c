-- Which call of a device that fails once is the one that fails.
use Rattle.std.specs.Prelude.{ℕ, zero, suc, ◌≡◌, ◌+◌, Option, None, Some}

-- One call is passed on, or fails if its turn has come; after that all are passed on.
abbrev pub TakesTurn : (before now : Option ℕ) → Type 0
TakesTurn None now = now ≡ None
TakesTurn (Some zero) now = now ≡ None
TakesTurn (Some (suc left)) now = now ≡ Some left

-- the failures of the inner device, and the failure that was added if it came
abbrev pub count_with : ℕ → Option ℕ → ℕ
count_with inner None = inner + 1
count_with inner (Some left) = inner
