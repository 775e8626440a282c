-- The commands over databases, and those over notes.
use Rattle.clap.specs.Words.{with_subcommand}
use Rattle.jc_command_args.specs.Grammar.{databases_grammar, notes_grammar, owners_grammar}
use Rattle.jc_command_args.proofs.grammar.collector.Goals as goal

pub returns : goal.returns
returns c =
    let databases = c.over_databases.ensures in
    let base = databases_grammar databases.0 databases.1 in
    let notes = c.notes_command.ensures in
    let one = with_subcommand base (notes_grammar notes.0).top in (
      databases.0,
      databases.1,
      notes.0,
      databases.2,
      databases.3,
      notes.1,
      c.subcommand-2.ensures one owners_grammar
          (c.subcommand.ensures base (notes_grammar notes.0) databases.4 notes.2) c.owners_command.ensures,
    )
