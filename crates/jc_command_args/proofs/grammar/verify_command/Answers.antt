-- The arguments in turn.
use Rattle.std.proofs.Common.{codes}
use Rattle.clap.specs.Words.{new_app, with_rule}
use Rattle.jc_command_args.specs.Grammar.{kind_rule, place_rule}
use Rattle.jc_command_args.proofs.grammar.verify_command.Goals as goal

pub returns : goal.returns
returns c =
    let kinds = c.kind_arg.ensures.0 in
    let none = new_app (codes "verify") in (
      kinds,
      c.kind_arg.ensures.1,
      c.arg-2.ensures (with_rule none (kind_rule kinds)) (place_rule (codes "FILE"))
          (c.arg.ensures none (kind_rule kinds) c.new_command.ensures c.kind_arg.ensures.2) c.place_arg.ensures,
    )
