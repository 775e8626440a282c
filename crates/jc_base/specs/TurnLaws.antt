-- The call that fails raises the count.
use Rattle.std.proofs.Common.{◌≡◌, ℕ, Option, Some, Err, subst, sym, arith}
use Rattle.jc_base.specs.Device.{CountsFailure}
use Rattle.jc_base.specs.Turn.{TakesTurn, count_with}

pub failing_turn : {T E : Type 0} (inner : ℕ) (before now : Option ℕ) (e : E) → TakesTurn before now → before ≡ Some 0 → CountsFailure {T = T} {E = E} (count_with inner before) (count_with inner now) (Err e)
failing_turn {T} {E} inner before now e turn first =
    let P : Option ℕ → Type 0 = λ b. TakesTurn b now → CountsFailure {T = T} {E = E} (count_with inner b) (count_with inner now) (Err e) in
    subst P (sym first) (λ ended.
    let Q : Option ℕ → Type 0 = λ n. CountsFailure {T = T} {E = E} inner (count_with inner n) (Err e) in
    subst Q (sym ended) (record { never_falls = omega arith; failed = record { never_falls = omega arith; rises = λ _. omega arith } })) turn
