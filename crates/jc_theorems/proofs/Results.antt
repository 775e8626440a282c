-- What holds of a result.
use Rattle.std.proofs.Common.{Err, Ok, Result}
use Rattle.std.specs.Prelude.{OnOk}

-- what holds if a value is given, by what follows from that
pub on_ok_if : {T E : Type 0} (r : Result T E) (Z : Type 0) → ((x : T) → ((P : Type 0) → OnOk r P → P) → Z) → OnOk r Z
on_ok_if (Ok x) Z each = each x (λ P p. p)
on_ok_if (Err e) Z each = tt
