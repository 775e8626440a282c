-- The file that is opened has what is told of it.
use Rattle.std.proofs.Common.{◌∙◌}
use Rattle.jc_sender.proofs.decided.acknowledged.Goals as goal

pub returns-clause-bytes : goal.returns-clause-bytes
returns-clause-bytes g c = λ held is. c.acknowledged_of.ensures.bytes held (c.in_ok-file.ensures.stream ∙ is)
