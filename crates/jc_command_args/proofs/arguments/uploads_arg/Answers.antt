use Rattle.std.proofs.Common.{rules}
use Rattle.jc_command_args.proofs.arguments.uploads_arg.Goals as goal

pub returns : goal.returns
returns c = search rules
