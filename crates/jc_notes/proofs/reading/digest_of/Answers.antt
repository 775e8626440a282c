-- A note of the number is its last so far, and one of another changes nothing.
use Rattle.std.proofs.Common.{◌∙◌, [], get_or, sym}
use Rattle.jc_ledger_files.specs.declared.window_note.WindowNote.{WindowNote}
use Rattle.jc_notes.proofs.Found.{noted_elsewhere, noted_here, noted_more}
use Rattle.jc_notes.proofs.reading.digest_of.Goals as goal
use Rattle.jc_notes.proofs.reading.digest_of.Goals.{then-note-number, else-note-number}

none_there : WindowNote
none_there = record { number = 0; digest = record { 0 = [] } }

pub loop-note-preserved : goal.loop-note-preserved
unfolding none_there
loop-note-preserved c =
    let note = get_or c.args.notes.now c.loop-note.note-index none_there in
    noted_more c.args.notes.now c.loop-note.note-index none_there c.args.number c.loop-note.found c.if-note-number.found
    c.loop-note-test.true c.loop-note.invariant
    (elim c.if-note-number.branch [
      | then-note-number w ↦ w.found-is ∙ sym (noted_here c.loop-note.found note c.args.number w.if-note-number.true)
      | else-note-number w ↦ w.found-is ∙ sym (noted_elsewhere c.loop-note.found note c.args.number w.if-note-number.false)
    ])
