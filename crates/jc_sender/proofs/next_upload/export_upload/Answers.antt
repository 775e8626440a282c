-- The entries that the source gave up to its end, and for a device with known bytes those of the bytes' reading.
use Rattle.std.proofs.Common.{Err, ap, refl, rules}
use Rattle.jc_command_args.specs.declared.request.InputKind.TheVariants.{Export}
use Rattle.jc_export.specs.Cut.{joined}
use Rattle.jc_stream.specs.Device.{limits_of}
use Rattle.jc_upload.specs.declared.excerpt.Excerpt.{Excerpt}
use Rattle.jc_sender.specs.Sent.{MakesUpload}
use Rattle.jc_sender.specs.Source.{HasFault}
use Rattle.jc_sender.proofs.Room.{kept}
use Rattle.jc_sender.proofs.Streams.{known_entries, known_fault, some_entries, some_fault}
use Rattle.jc_sender.proofs.Told.{of_stream}
use Rattle.jc_sender.proofs.Uploads.{upload_made, upload_refused}
use Rattle.jc_sender.proofs.next_upload.export_upload.Goals as goal

pub returns-clause-made : goal.returns-clause-made
returns-clause-made g c =
    let gave = c.in_ok-excerpt.ensures.excerpt in
    of_stream (g.R.ByteStream.remaining c.args.device)
    (λ bytes. MakesUpload Export c.args.uploader.now c.args.limit c.args.most_bytes c.args.whole bytes c.in_ok-upload.upload.items) (
      joined gave.0,
      upload_made (joined gave.0) gave.0 c.args.uploader.now
          (some_entries c.one_reading.ensures.some c.one_reading.ensures.only c.canonical_texts_read_back.ensures.whole
          c.canonical_texts_read_back.ensures.ends c.default.result (limits_of c.in_ok-entries.entries) gave.0 c.default.ensures
          c.in_ok-entries.ensures.limits gave.2)
          c.args.limit c.args.most_bytes c.args.whole c.in_ok-excerpt.excerpt _ c.in_ok-upload.upload.items gave.3 refl refl
          (search rules) (c.in_ok-upload.ensures.upload gave.0),
    )
    (λ bytes is_known.
    upload_made bytes gave.0 c.args.uploader.now
    (known_entries bytes c.default.result _ _ gave.0 c.in_ok-excerpt.ending c.default.ensures is_known c.in_ok-entries.ensures.reading
    (c.one_reading.ensures.only c.default.result 0 bytes) gave.1 c.in-End.left c.in-End.is)
    c.args.limit c.args.most_bytes c.args.whole c.in_ok-excerpt.excerpt _ c.in_ok-upload.upload.items gave.3 refl refl
    (search rules) (c.in_ok-upload.ensures.upload gave.0))

pub returns-in-Bad-clause-failed : goal.returns-in-Bad-clause-failed
returns-in-Bad-clause-failed g c =
    let gave = c.in_ok-excerpt.ensures.excerpt in
    of_stream (g.R.ByteStream.remaining c.args.device) (λ bytes. HasFault Export bytes c.in-Bad.fault)
    (some_fault c.one_reading.ensures.only c.default.result (limits_of c.in_ok-entries.entries) c.in_ok-excerpt.ending c.in-Bad.fault
    c.default.ensures c.in_ok-entries.ensures.limits c.in-Bad.is c.in_ok-excerpt.ensures.stream)
    (λ bytes is_known.
    known_fault bytes c.default.result _ _ gave.0 c.in_ok-excerpt.ending c.default.ensures is_known c.in_ok-entries.ensures.reading
    (c.one_reading.ensures.only c.default.result 0 bytes) gave.1 c.in-Bad.fault c.in-Bad.is)

pub returns-in_err-upload-clause-failed : goal.returns-in_err-upload-clause-failed
returns-in_err-upload-clause-failed g c =
    let gave = c.in_ok-excerpt.ensures.excerpt in
    let after : Excerpt =
    record { count = c.in_ok-excerpt.excerpt.count; before = c.in_ok-excerpt.excerpt.before; carried = c.keep_within.new.entries } in
    let those =
    kept c.args.uploader.now c.args.limit gave.0 c.args.most_bytes c.in_ok-excerpt.excerpt after gave.3 refl refl (search rules) in
    let changed = c.in_err-upload.ensures.changed gave.0 those.0 those.1 in
    upload_refused (g.R.ByteStream.remaining c.args.device) gave.0 c.args.uploader.now
    (λ bytes is_known. known_entries bytes c.default.result _ _ gave.0 c.in_ok-excerpt.ending c.default.ensures is_known c.in_ok-entries.ensures.reading
    (c.one_reading.ensures.only c.default.result 0 bytes) gave.1 c.in-End.left c.in-End.is)
    c.in_err-upload.field-0.0 c.from_residual-in_err-upload.result (λ same. changed.0 (ap Err same))
    c.from_residual-in_err-upload.ensures.1
