use Rattle.std.proofs.Common.{rules}
use Rattle.jc_command_shared.proofs.out_buffer.OutBuffer.end.Goals as goal

pub returns-clause-whole : goal.returns-clause-whole
returns-clause-whole g c = search rules
