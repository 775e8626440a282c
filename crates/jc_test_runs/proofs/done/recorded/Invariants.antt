-- What is kept stands behind what is left.
use Rattle.std.proofs.Common.{◌≡◌, ◌++◌}
use Rattle.std.specs.Iterator.Adapters.{rev_source}
use Rattle.std.specs.Slice.Iter.{iter_rest}
use Rattle.jc_test_runs.proofs.done.recorded.Given as goal

abbrev pub invariant-loop-byte : goal.invariant-loop-byte
invariant-loop-byte l = iter_rest (rev_source l.byte-iterator) ++ l.kept.items ≡ l.bytes
