use Rattle.jc_collect.proofs.Chains.{chain_taken}
use Rattle.jc_collect.proofs.chain.chain_stored.Goals as goal

pub returns : goal.returns
returns c = chain_taken c.one_saying.ensures
