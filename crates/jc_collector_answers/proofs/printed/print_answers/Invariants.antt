use Rattle.std.proofs.Common.{take}
use Rattle.jc_collector_answers.specs.Grouped.{these}
use Rattle.jc_collector_answers.specs.Tied.{PrintsWith}
use Rattle.jc_collector_answers.proofs.printed.print_answers.Given as goal

-- the lines so far were printed
abbrev pub invariant-loop-answer : goal.invariant-loop-answer
invariant-loop-answer g l =
    PrintsWith (these (take l.answer-index l.fn.answers)) l.answer-index l.status (g.O.Write.contents l.fn.output) (g.O.Write.contents l.output)
