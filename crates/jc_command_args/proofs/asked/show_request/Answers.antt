use Rattle.std.proofs.Common.{rules}
use Rattle.jc_command_args.proofs.asked.show_request.Goals as goal

pub returns : goal.returns
returns c = search rules
