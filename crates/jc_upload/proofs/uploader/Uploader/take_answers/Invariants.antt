use Rattle.std.proofs.Common.{List, drop}
use Rattle.jc_base.specs.LogEntry.{LogEntry}
use Rattle.jc_upload.specs.Marks.{AsksFor, IsAsked, IsMarked}
use Rattle.jc_upload.specs.Upload.{Sender, TakesAnswers}
use Rattle.jc_upload.proofs.uploader.Uploader.take_answers.Given as goal

-- what the answers that are left do is what all of them do, and where the sender is was asked for
abbrev pub invariant-loop-answer : goal.invariant-loop-answer
invariant-loop-answer l =
    (entries : List LogEntry) → IsMarked entries l.marks → AsksFor l.fn.self.point.position l.answers l.marks
    → IsAsked l.marks l.self.point.position × ((after : Sender) → TakesAnswers entries (drop l.answer-index l.answers) l.self after
    → TakesAnswers entries l.answers l.fn.self after)
