use Rattle.std.proofs.Common.{rules}
use Rattle.jc_command_shared.proofs.file.read_whole.Goals as goal

pub returns-in-Ok-clause-whole : goal.returns-in-Ok-clause-whole
returns-in-Ok-clause-whole g c = search rules
