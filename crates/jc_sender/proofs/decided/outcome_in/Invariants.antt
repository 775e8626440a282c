use Rattle.std.proofs.Common.{length}
use Rattle.jc_sender.proofs.Acknowledging.{SaysSoFar}
use Rattle.jc_sender.proofs.decided.outcome_in.Given as goal

abbrev pub invariant-loop-rest : goal.invariant-loop-rest
invariant-loop-rest l = SaysSoFar l.sent l.text l.rest l.outcome

abbrev pub decreases-loop-rest : goal.decreases-loop-rest
decreases-loop-rest l = length l.rest
