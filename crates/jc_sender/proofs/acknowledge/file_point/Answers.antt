-- The sender ends at the point that is answered.
use Rattle.std.proofs.Common.{subst, List}
use Rattle.jc_upload.specs.Upload.{TakesAnswers}
use Rattle.jc_base.specs.LogEntry.{LogEntry}
use Rattle.jc_command_args.specs.declared.request.InputKind.TheVariants.{File}
use Rattle.jc_sender.proofs.Taking.{sender_moved}
use Rattle.jc_sender.proofs.acknowledge.file_point.Goals as goal

pub returns-clause-moved : goal.returns-clause-moved
returns-clause-moved c =
    sender_moved File c.args.bytes.now c.in_ok-entries.entries.items c.args.answers.now c.args.uploader c.take_answers.new.uploader
    c.resume.result.now c.in_ok-entries.ensures.entries
    (subst (λ (entries : List LogEntry). TakesAnswers entries c.args.answers.now c.args.uploader c.take_answers.new.uploader)
    c.deref.ensures.value c.take_answers.ensures) c.resume.ensures
