-- The upload alone.
use Rattle.std.proofs.Common.{codes}
use Rattle.clap.specs.Words.{new_app}
use Rattle.jc_command_args.specs.Grammar.{place_rule}
use Rattle.jc_command_args.proofs.grammar.acknowledged_command.Goals as goal

pub returns : goal.returns
returns c =
    c.arg.ensures (new_app (codes "acknowledged")) (place_rule (codes "UPLOAD")) c.new_command.ensures c.place_arg.ensures
