use Rattle.jc_collect.proofs.EachKnown.{keeps_of, stores_of}
use Rattle.jc_collect.proofs.chain.each_stored.Goals as goal

pub returns-clause-stored : goal.returns-clause-stored
returns-clause-stored c = stores_of c.one_saying.ensures

pub returns-clause-kept : goal.returns-clause-kept
returns-clause-kept c = keeps_of c.one_saying.ensures
