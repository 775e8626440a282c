-- The file, and the bounds in turn.
use Rattle.std.proofs.Common.{codes}
use Rattle.clap.specs.Words.{new_app, with_rule}
use Rattle.jc_command_args.specs.Grammar.{number_rule, place_rule}
use Rattle.jc_command_args.proofs.grammar.inspect_command.Goals as goal

pub returns : goal.returns
returns c =
    let none = new_app (codes "inspect") in
    let one = with_rule none (place_rule (codes "FILE")) in
    let two = with_rule one (number_rule (codes "most-entries")) in
    let three = with_rule two (number_rule (codes "most-fields")) in
    let four = with_rule three (number_rule (codes "most-bytes")) in
    c.arg-5.ensures four (number_rule (codes "most-windows"))
    (c.arg-4.ensures three (number_rule (codes "most-bytes"))
    (c.arg-3.ensures two (number_rule (codes "most-fields"))
    (c.arg-2.ensures one (number_rule (codes "most-entries"))
    (c.arg.ensures none (place_rule (codes "FILE")) c.new_command.ensures c.place_arg.ensures)
    c.number_arg.ensures) c.number_arg-2.ensures) c.number_arg-3.ensures) c.number_arg-4.ensures
