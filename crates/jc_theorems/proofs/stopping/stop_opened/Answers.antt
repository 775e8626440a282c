-- The keeper is that of one kind.
use Rattle.jc_theorems.proofs.stopping.stop_opened.Goals as goal

pub returns-in-ByKey-clause-left : goal.returns-in-ByKey-clause-left
returns-in-ByKey-clause-left g c = rw (c.let_go.ensures, c.in-ByKey.is) (c.stop_keeper.ensures.left (λ db journal. journal.spells.sound))

pub returns-in-ByNumber-clause-left : goal.returns-in-ByNumber-clause-left
returns-in-ByNumber-clause-left g c = rw (c.let_go-in-ByNumber.ensures, c.in-ByNumber.is) (c.stop_keeper-in-ByNumber.ensures.left (λ db journal. journal.sound))
