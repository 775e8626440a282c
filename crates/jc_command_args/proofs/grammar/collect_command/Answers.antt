-- The uploads, then the options.
use Rattle.std.proofs.Common.{codes}
use Rattle.clap.specs.Words.{with_rule}
use Rattle.jc_command_args.specs.Grammar.{database_grammar, number_rule, option_rule, tables_rule, uploads_rule}
use Rattle.jc_command_args.proofs.grammar.collect_command.Goals as goal

pub returns : goal.returns
returns c =
    let none = database_grammar (codes "collect") in
    let one = with_rule none uploads_rule in
    let two = with_rule one (option_rule (codes "files-from")) in
    let three = with_rule two (option_rule (codes "sequences")) in
    let four = with_rule three (number_rule (codes "most-windows")) in
    let five = with_rule four (option_rule (codes "then-export")) in
    let tables = c.tables_arg.ensures in (
      tables.0,
      tables.1,
      c.arg-6.ensures five (tables_rule tables.0)
          (c.arg-5.ensures four (option_rule (codes "then-export"))
          (c.arg-4.ensures three (number_rule (codes "most-windows"))
          (c.arg-3.ensures two (option_rule (codes "sequences"))
          (c.arg-2.ensures one (option_rule (codes "files-from"))
          (c.arg.ensures none uploads_rule c.database_command.ensures c.uploads_arg.ensures) c.list_arg.ensures)
          c.sequences_arg.ensures) c.number_arg.ensures) c.then_export_arg.ensures) tables.2,
    )
