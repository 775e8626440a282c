-- A bound that is no number asks for nothing.
use Rattle.jc_command_args.specs.Words.{given_rows}
use Rattle.jc_command_args.proofs.Collecting.{none_bounded}
use Rattle.jc_command_args.proofs.asked.collect_request.Goals as goal

pub returns-in-None : goal.returns-in-None
returns-in-None c = none_bounded (given_rows c.args.given.now) c.in-None.ensures
