use Rattle.std.proofs.Common.{rules}
use Rattle.jc_command_shared.proofs.file.open_file.Goals as goal

pub returns-in-Err : goal.returns-in-Err
returns-in-Err g c = search rules
