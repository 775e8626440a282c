use Rattle.std.proofs.Common.{List, length}
use Rattle.jc_upload.specs.declared.answer.Answer.{Answer}
use Rattle.jc_command_shared.specs.Lines.{AreAnswers}
use Rattle.jc_collector_answers.proofs.Judging.{IsLeft}
use Rattle.jc_collector_answers.proofs.judged.status_of_lines.Given as goal

abbrev pub invariant-loop-rest : goal.invariant-loop-rest
invariant-loop-rest l = (answers : List Answer) → AreAnswers answers l.lines → IsLeft answers l.status l.rest

abbrev pub decreases-loop-rest : goal.decreases-loop-rest
decreases-loop-rest l = length l.rest
