-- The folder, and both changes.
use Rattle.std.proofs.Common.{codes}
use Rattle.clap.specs.Words.{new_app, new_rule, with_rule}
use Rattle.jc_command_args.specs.Grammar.{option_rule, required_rule}
use Rattle.jc_command_args.proofs.grammar.owners_command.Goals as goal

pub returns : goal.returns
returns c =
    let none = new_app (codes "owners") in
    let one = with_rule none (required_rule (codes "sequences")) in
    let two = with_rule one (option_rule (codes "rename")) in
    let three = with_rule two (option_rule (codes "release")) in
    c.arg-4.ensures three (new_rule (codes "NEW"))
    (c.arg-3.ensures two (option_rule (codes "release"))
    (c.arg-2.ensures one (option_rule (codes "rename"))
    (c.arg.ensures none (required_rule (codes "sequences")) c.new_command.ensures c.notes_arg.ensures)
    c.option_arg.ensures) c.option_arg-2.ensures) c.new_name_arg.ensures
