use Rattle.jc_collect.proofs.EachKnown.{known_chain_of}
use Rattle.jc_collect.proofs.chain.known_chain.Goals as goal

pub returns : goal.returns
returns c = known_chain_of
