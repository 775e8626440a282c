-- What the source over the bytes gave is the bytes' reading.
use Rattle.std.proofs.Common.{refl}
use Rattle.jc_sender.proofs.Sources.{entries_faulty, entries_well}
use Rattle.jc_sender.proofs.source.file_entries.Goals as goal

pub returns-in-End-clause-entries : goal.returns-in-End-clause-entries
returns-in-End-clause-entries c =
    entries_well c.args.bytes.now c.default.result _ c.default.ensures (c.new-source.ensures.reading c.args.bytes.now refl)
    (λ reading reads. c.new-source.ensures.only c.args.bytes.now reading refl reads) c.in_ok-entries.entries.items c.in_ok-entries.ending
    c.in-End.left c.in_ok-entries.ensures.all c.in-End.is

pub returns-clause-failed : goal.returns-clause-failed
returns-clause-failed c =
    entries_faulty c.args.bytes.now c.default.result _ c.default.ensures (c.new-source.ensures.reading c.args.bytes.now refl)
    (λ reading reads. c.new-source.ensures.only c.args.bytes.now reading refl reads) c.in_ok-entries.entries.items c.in_ok-entries.ending
    c.in-Bad.fault c.in_ok-entries.ensures.all c.in-Bad.is
