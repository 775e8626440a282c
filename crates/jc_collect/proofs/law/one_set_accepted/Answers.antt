use Rattle.jc_collect.proofs.OneSet.{one_set}
use Rattle.jc_collect.proofs.law.one_set_accepted.Goals as goal

pub returns : goal.returns
returns c = λ limits start uploads aside p q a b. one_set limits start uploads aside p q a b
