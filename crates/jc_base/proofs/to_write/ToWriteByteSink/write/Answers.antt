use Rattle.std.proofs.Common.{rules}
use Rattle.jc_base.proofs.to_write.ToWriteByteSink.write.Goals as goal

pub returns-in-Ok-clause-takes : goal.returns-in-Ok-clause-takes
returns-in-Ok-clause-takes g c = search rules
