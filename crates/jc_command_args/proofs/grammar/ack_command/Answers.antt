-- The arguments of a source.
use Rattle.std.proofs.Common.{codes}
use Rattle.clap.specs.Words.{new_app}
use Rattle.jc_command_args.proofs.grammar.ack_command.Goals as goal

pub returns : goal.returns
returns c =
    let none = new_app (codes "ack") in
    let sourced = c.with_source.ensures in
    (sourced.0, sourced.1, sourced.2 none c.new_command-command.ensures)
