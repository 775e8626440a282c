use Rattle.std.proofs.Common.{drop}
use Rattle.jc_upload.specs.Upload.{Sender, TakesAnswers}
use Rattle.jc_sender.proofs.answers.take_answers.Given as goal

-- what the answers that are left do is what all of them do
abbrev pub invariant-loop-answer : goal.invariant-loop-answer
invariant-loop-answer l =
    (after : Sender) → TakesAnswers l.entries (drop l.answer-index l.answers) l.uploader after
    → TakesAnswers l.entries l.answers l.fn.uploader after
