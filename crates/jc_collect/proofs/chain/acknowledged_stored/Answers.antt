use Rattle.jc_collect.proofs.EachKnown.{acks_found, acks_of}
use Rattle.jc_collect.proofs.chain.acknowledged_stored.Goals as goal

pub returns-clause-stored : goal.returns-clause-stored
returns-clause-stored c = acks_of

pub returns-clause-found : goal.returns-clause-found
returns-clause-found c = acks_found
