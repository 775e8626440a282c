-- What the source over the bytes gave is the bytes' reading.
use Rattle.std.proofs.Common.{refl}
use Rattle.jc_sender.proofs.Sources.{counted_faulty, counted_well}
use Rattle.jc_sender.proofs.source.check_file.Goals as goal

pub returns-in-End-clause-well : goal.returns-in-End-clause-well
returns-in-End-clause-well c =
    counted_well c.args.bytes.now c.default.result _ c.default.ensures (c.new-source.ensures.reading c.args.bytes.now refl)
    (λ reading reads. c.new-source.ensures.only c.args.bytes.now reading refl reads) c.in_ok-ending.field-0-0 c.in_ok-ending.ending
    c.in-End.left c.in_ok-ending.ensures.counted c.in-End.is

pub returns-clause-failed : goal.returns-clause-failed
returns-clause-failed c =
    counted_faulty c.args.bytes.now c.default.result _ c.default.ensures (c.new-source.ensures.reading c.args.bytes.now refl)
    (λ reading reads. c.new-source.ensures.only c.args.bytes.now reading refl reads) c.in_ok-ending.field-0-0 c.in_ok-ending.ending
    c.in-Bad.fault c.in_ok-ending.ensures.counted c.in-Bad.is
