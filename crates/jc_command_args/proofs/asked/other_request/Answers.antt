use Rattle.std.proofs.Common.{rules}
use Rattle.jc_command_args.proofs.asked.other_request.Goals as goal

pub returns-in-migrate : goal.returns-in-migrate
returns-in-migrate c = search rules
