-- The options in turn.
use Rattle.std.proofs.Common.{codes}
use Rattle.clap.specs.Words.{with_rule}
use Rattle.jc_command_args.specs.Grammar.{database_grammar, number_rule, option_rule}
use Rattle.jc_command_args.proofs.grammar.show_command.Goals as goal

pub returns : goal.returns
returns c =
    let none = database_grammar (codes "show") in
    let one = with_rule none (option_rule (codes "id")) in
    let two = with_rule one (number_rule (codes "from")) in
    let three = with_rule two (number_rule (codes "to")) in
    c.arg-4.ensures three (option_rule (codes "field"))
    (c.arg-3.ensures two (number_rule (codes "to"))
    (c.arg-2.ensures one (number_rule (codes "from"))
    (c.arg.ensures none (option_rule (codes "id")) c.database_command.ensures c.option_arg.ensures) c.number_arg.ensures)
    c.number_arg-2.ensures) c.option_arg-2.ensures
