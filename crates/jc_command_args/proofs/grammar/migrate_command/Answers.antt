-- The database, then the option.
use Rattle.std.proofs.Common.{codes}
use Rattle.jc_command_args.specs.Grammar.{database_grammar, tables_rule}
use Rattle.jc_command_args.proofs.grammar.migrate_command.Goals as goal

pub returns : goal.returns
returns c =
    let none = database_grammar (codes "migrate") in
    let tables = c.tables_arg.ensures in
    (tables.0, tables.1, c.arg.ensures none (tables_rule tables.0) c.database_command.ensures tables.2)
