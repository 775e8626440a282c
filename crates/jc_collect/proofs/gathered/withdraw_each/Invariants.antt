use Rattle.std.proofs.Common.{◌≡◌, ◌++◌, drop, map, take}
use Rattle.jc_collect.specs.Settled.{withdrawn}
use Rattle.jc_collect.proofs.gathered.withdraw_each.Given as goal

abbrev pub invariant-loop-answer : goal.invariant-loop-answer
invariant-loop-answer l = l.answers ≡ map (withdrawn l.stop) (take l.answer-index l.fn.answers) ++ drop l.answer-index l.fn.answers
