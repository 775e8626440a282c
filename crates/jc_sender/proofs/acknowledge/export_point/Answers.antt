-- The entries that the stream gave up to its end, and for a device with known bytes those of the bytes' reading.
use Rattle.jc_command_args.specs.declared.request.InputKind.TheVariants.{Export}
use Rattle.jc_export.specs.Cut.{joined}
use Rattle.jc_stream.specs.Device.{limits_of}
use Rattle.jc_sender.specs.Source.{HasFault}
use Rattle.jc_sender.specs.Taken.{MovesSender}
use Rattle.jc_sender.proofs.Told.{of_stream}
use Rattle.jc_sender.proofs.Streams.{known_entries, known_fault, some_entries, some_fault}
use Rattle.jc_sender.proofs.Taking.{sender_moved}
use Rattle.jc_sender.proofs.acknowledge.export_point.Goals as goal

pub returns-in-End-clause-moved : goal.returns-in-End-clause-moved
returns-in-End-clause-moved g c =
    let gave = c.in_ok-ending.ensures.taken in
    of_stream (g.R.ByteStream.remaining c.args.device) (λ bytes. MovesSender Export c.args.uploader bytes c.args.answers.now c.resume.result.now) (
      joined gave.0,
      sender_moved Export (joined gave.0) gave.0 c.args.answers.now c.args.uploader c.on_answers.new.self c.resume.result.now
          (some_entries c.one_reading.ensures.some c.one_reading.ensures.only c.canonical_texts_read_back.ensures.whole
          c.canonical_texts_read_back.ensures.ends c.default.result (limits_of c.in_ok-entries.entries) gave.0 c.default.ensures
          c.in_ok-entries.ensures.limits gave.2)
          gave.3 c.resume.ensures,
    )
    (λ bytes is_known.
    sender_moved Export bytes gave.0 c.args.answers.now c.args.uploader c.on_answers.new.self c.resume.result.now
    (known_entries bytes c.default.result _ _ gave.0 c.in_ok-ending.ending c.default.ensures is_known c.in_ok-entries.ensures.reading
    (c.one_reading.ensures.only c.default.result 0 bytes) gave.1 c.in-End.left c.in-End.is)
    gave.3 c.resume.ensures)

pub returns-clause-failed : goal.returns-clause-failed
returns-clause-failed g c =
    let gave = c.in_ok-ending.ensures.taken in
    of_stream (g.R.ByteStream.remaining c.args.device) (λ bytes. HasFault Export bytes c.in-Bad.fault)
    (some_fault c.one_reading.ensures.only c.default.result (limits_of c.in_ok-entries.entries) c.in_ok-ending.ending c.in-Bad.fault
    c.default.ensures c.in_ok-entries.ensures.limits c.in-Bad.is c.in_ok-ending.ensures.stream)
    (λ bytes is_known.
    known_fault bytes c.default.result _ _ gave.0 c.in_ok-ending.ending c.default.ensures is_known c.in_ok-entries.ensures.reading
    (c.one_reading.ensures.only c.default.result 0 bytes) gave.1 c.in-Bad.fault c.in-Bad.is)
