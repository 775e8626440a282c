-- What is kept of the lines is what was printed.
use Rattle.std.proofs.Common.{ℕ, List, subst, sym}
use Rattle.jc_command_shared.specs.Lines.{AreAnswers}
use Rattle.jc_collector_answers.proofs.Printing.{judged_lines}
use Rattle.jc_collector_answers.proofs.answer_sink.AnswerSink.end.Goals as goal

pub returns-clause-printed : goal.returns-clause-printed
returns-clause-printed g c =
    judged_lines (g.O.Write.contents c.args.self.before.value) (g.O.Write.contents c.args.self.output.now) c.args.self.lines.now.items
    c.status_of_lines.result c.args.self.printed
    (λ answers are. c.status_of_lines.ensures answers (subst (λ (l : List ℕ). AreAnswers answers l) (sym c.deref.ensures.value) are))
