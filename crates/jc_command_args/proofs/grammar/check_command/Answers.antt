-- The database, then the option.
use Rattle.std.proofs.Common.{codes}
use Rattle.jc_command_args.specs.Grammar.{database_grammar, option_rule}
use Rattle.jc_command_args.proofs.grammar.check_command.Goals as goal

pub returns : goal.returns
returns c =
    c.arg.ensures (database_grammar (codes "check")) (option_rule (codes "sequences")) c.database_command.ensures c.option_arg.ensures
