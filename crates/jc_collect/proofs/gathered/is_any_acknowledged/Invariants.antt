use Rattle.std.proofs.Common.{take}
use Rattle.jc_collect.specs.Each.{NoneAcknowledged}
use Rattle.jc_collect.proofs.gathered.is_any_acknowledged.Given as goal

abbrev pub invariant-loop-answer : goal.invariant-loop-answer
invariant-loop-answer l = NoneAcknowledged (take l.answer-index l.fn.answers)
