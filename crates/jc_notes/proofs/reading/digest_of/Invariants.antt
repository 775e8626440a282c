use Rattle.std.proofs.Common.{◌≡◌, take}
use Rattle.jc_ledger_files.specs.Noted.{noted}
use Rattle.jc_notes.proofs.reading.digest_of.Given as goal

abbrev pub invariant-loop-note : goal.invariant-loop-note
invariant-loop-note l = l.found ≡ noted (take l.note-index l.notes) l.number
