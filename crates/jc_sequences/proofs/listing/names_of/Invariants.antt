use Rattle.std.proofs.Common.{length}
use Rattle.jc_sequences.proofs.Listed.{AreListed}
use Rattle.jc_sequences.proofs.listing.names_of.Given as goal

abbrev pub invariant-loop-key : goal.invariant-loop-key
invariant-loop-key l = AreListed l.names.items l.keys.keys

abbrev pub decreases-loop-key : goal.decreases-loop-key
decreases-loop-key l = length l.keys.keys
