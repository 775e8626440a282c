-- The commands over a database in turn.
use Rattle.std.proofs.Common.{codes}
use Rattle.clap.specs.Words.{with_subcommand}
use Rattle.jc_command_args.specs.Grammar.{check_grammar, collect_grammar, database_grammar, migrate_grammar, show_grammar, top_grammar}
use Rattle.jc_command_args.proofs.grammar.over_databases.Goals as goal

pub returns : goal.returns
returns c =
    let collect = c.collect_command.ensures in
    let migrate = c.migrate_command.ensures in
    let exported = database_grammar (codes "export") in
    let one = with_subcommand top_grammar (collect_grammar collect.0).top in
    let two = with_subcommand one exported.top in
    let three = with_subcommand two show_grammar.top in
    let four = with_subcommand three check_grammar.top in (
      collect.0,
      migrate.0,
      collect.1,
      migrate.1,
      c.subcommand-5.ensures four (migrate_grammar migrate.0)
          (c.subcommand-4.ensures three check_grammar
          (c.subcommand-3.ensures two show_grammar
          (c.subcommand-2.ensures one exported
          (c.subcommand.ensures top_grammar (collect_grammar collect.0) c.top.ensures collect.2) c.export_command.ensures)
          c.show_command.ensures) c.check_command.ensures) migrate.2,
    )
