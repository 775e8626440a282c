-- What is sound once it was noted was sound once it was stored.
use Rattle.std.proofs.Common.{refl, ⊎_elim}
use Rattle.std.proofs.lemmas.Result.{on_ok_weaker}
use Rattle.jc_theorems.proofs.Settled.{held_before}
use Rattle.jc_theorems.proofs.turning.finish.Goals as goal

pub returns-in-Ok-clause-same : goal.returns-in-Ok-clause-same
returns-in-Ok-clause-same g c = λ made sound.
    let note = c.note_waiting-noted.ensures in
    rw (note.shelf, note.present, note.pending) (c.settle-stored.ensures.same made
    (held_before g.K.Keeper.sound g.L.Ledger.sound g.S.Shelf.sound g.L.Ledger.came c.settle-stored.new.self.ledger c.note_waiting-noted.new.self.ledger
    note.present note.shelf note.ledger.was.was_sound note.ledger.comes sound))

pub returns-in-Ok-clause-before : goal.returns-in-Ok-clause-before
returns-in-Ok-clause-before g c = λ sound.
    let note = c.note_waiting-noted.ensures in
    c.settle-stored.ensures.before
    (held_before g.K.Keeper.sound g.L.Ledger.sound g.S.Shelf.sound g.L.Ledger.came c.settle-stored.new.self.ledger c.note_waiting-noted.new.self.ledger
    note.present note.shelf note.ledger.was.was_sound note.ledger.comes sound)

pub returns-in-Ok-clause-clean : goal.returns-in-Ok-clause-clean
returns-in-Ok-clause-clean g c = λ clean.
    let note = c.note_waiting-noted.ensures in
    c.settle-stored.ensures.clean
    (held_before g.K.Keeper.clean g.L.Ledger.clean g.S.Shelf.sound g.L.Ledger.came c.settle-stored.new.self.ledger c.note_waiting-noted.new.self.ledger
    note.present note.shelf note.ledger.was.was_clean note.ledger.comes clean)

pub returns-in-Ok-clause-answered : goal.returns-in-Ok-clause-answered
returns-in-Ok-clause-answered g c = λ clean made.
    let note = c.note_waiting-noted.ensures in
    on_ok_weaker c.note_waiting-noted.result
    (λ l_sound. ⊎_elim (λ was. (rw note.present was.0, (l_sound, (rw note.shelf was.1.1.0, clean.1.1.1)))) (λ at_once. absurd at_once.0)
    (c.settle-stored.ensures.answered
    (held_before g.K.Keeper.clean g.L.Ledger.clean g.S.Shelf.sound g.L.Ledger.came c.settle-stored.new.self.ledger c.note_waiting-noted.new.self.ledger
    note.present note.shelf note.ledger.was.was_clean note.ledger.comes clean)
    made (rw c.in-Ok.is refl)))
    (note.answered clean.1.0)

pub returns-in-Ok-clause-made : goal.returns-in-Ok-clause-made
returns-in-Ok-clause-made g c = λ made. c.note_waiting-noted.ensures.made c.settle-stored.ensures.settled (c.settle-stored.ensures.made made)

pub returns-in-Err-clause-same : goal.returns-in-Err-clause-same
returns-in-Err-clause-same g c = λ made sound.
    let note = c.note_waiting-noted.ensures in
    rw (note.shelf, note.present, note.pending) (c.settle-stored.ensures.same made
    (held_before g.K.Keeper.sound g.L.Ledger.sound g.S.Shelf.sound g.L.Ledger.came c.settle-stored.new.self.ledger c.note_waiting-noted.new.self.ledger
    note.present note.shelf note.ledger.was.was_sound note.ledger.comes sound))

pub returns-in-Err-clause-clean : goal.returns-in-Err-clause-clean
returns-in-Err-clause-clean g c = λ clean.
    let note = c.note_waiting-noted.ensures in
    c.settle-stored.ensures.clean
    (held_before g.K.Keeper.clean g.L.Ledger.clean g.S.Shelf.sound g.L.Ledger.came c.settle-stored.new.self.ledger c.note_waiting-noted.new.self.ledger
    note.present note.shelf note.ledger.was.was_clean note.ledger.comes clean)

pub returns-in-Err-clause-made : goal.returns-in-Err-clause-made
returns-in-Err-clause-made g c = λ made. c.note_waiting-noted.ensures.made c.settle-stored.ensures.settled (c.settle-stored.ensures.made made)
