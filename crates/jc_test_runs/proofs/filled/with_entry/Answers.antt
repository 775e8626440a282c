use Rattle.std.proofs.Common.{inl}
use Rattle.std.proofs.lemmas.Option.{IfSome_then}
use Rattle.jc_test_runs.proofs.filled.with_entry.Goals as goal

pub returns : goal.returns
returns g c = IfSome_then c.filled.result c.filled.ensures (λ files holds clean made. inl (holds clean))
