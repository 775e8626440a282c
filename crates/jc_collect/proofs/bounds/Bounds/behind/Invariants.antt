use Rattle.jc_collect.proofs.Bounding.{LeavesSoFar}
use Rattle.jc_collect.proofs.bounds.Bounds.behind.Given as goal

abbrev pub invariant-loop-field : goal.invariant-loop-field
invariant-loop-field l = LeavesSoFar l.fn.self l.fn.entry.body.pairs l.field-iterator l.left
