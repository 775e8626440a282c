use Rattle.jc_collect.proofs.OneAnswer.{answer_once}
use Rattle.jc_collect.proofs.law.one_answer.Goals as goal

pub returns : goal.returns
returns c = answer_once c.one_head.ensures.one c.one_head.ensures.passes c.one_head.ensures.one_fault c.one_saying.ensures
