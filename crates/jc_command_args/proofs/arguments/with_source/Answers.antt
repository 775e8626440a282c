-- The arguments in turn.
use Rattle.std.proofs.Common.{codes}
use Rattle.clap.specs.Words.{with_rule}
use Rattle.jc_command_args.specs.Grammar.{kind_rule, place_rule, required_rule}
use Rattle.jc_command_args.proofs.arguments.with_source.Goals as goal

pub returns : goal.returns
returns c =
    let kinds = c.kind_arg.ensures.0 in (
      kinds,
      c.kind_arg.ensures.1,
      λ none is.
          let one = with_rule none (required_rule (codes "source")) in
          let two = with_rule one (required_rule (codes "resume")) in
          let three = with_rule two (kind_rule kinds) in
          c.arg-4.ensures three (place_rule (codes "IN"))
          (c.arg-3.ensures two (kind_rule kinds)
          (c.arg-2.ensures one (required_rule (codes "resume"))
          (c.arg.ensures none (required_rule (codes "source")) is c.source_arg.ensures) c.resume_arg.ensures) c.kind_arg.ensures.2)
          c.place_arg.ensures,
    )
