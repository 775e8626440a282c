use Rattle.jc_theorems.proofs.TakenUp.{is_copied}
use Rattle.jc_theorems.proofs.copying.copy_journal.Goals as goal

pub returns-clause-copied : goal.returns-clause-copied
returns-clause-copied g c =
    is_copied c.args.limits.now c.args.keeper.journal (c.export_is_taken_up.ensures c.args.limits.now c.args.keeper.journal)
    c.in_ok-text.ensures.lawful c.in_ok-text.ensures.text c.deref.ensures.value c.in_ok-absorbed.ensures.step
