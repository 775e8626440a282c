-- The keeper is that of one kind.
use Rattle.jc_collector.proofs.closing.close_opened.Goals as goal

pub returns-in-ByKey-clause-keeps : goal.returns-in-ByKey-clause-keeps
returns-in-ByKey-clause-keeps g c = rw c.in-ByKey.is c.close_after.ensures.keeps

pub returns-in-ByNumber-clause-keeps : goal.returns-in-ByNumber-clause-keeps
returns-in-ByNumber-clause-keeps g c = rw c.in-ByNumber.is c.close_after-in-ByNumber.ensures.keeps

pub returns-in-ByKey-clause-left : goal.returns-in-ByKey-clause-left
returns-in-ByKey-clause-left g c = rw c.in-ByKey.is c.close_after.ensures.left

pub returns-in-ByNumber-clause-left : goal.returns-in-ByNumber-clause-left
returns-in-ByNumber-clause-left g c = rw c.in-ByNumber.is c.close_after-in-ByNumber.ensures.left
