-- The arguments of a source, then both bounds, and the flag.
use Rattle.std.proofs.Common.{codes}
use Rattle.clap.specs.Words.{new_app, with_rule}
use Rattle.jc_command_args.specs.Grammar.{flag_rule, number_rule, with_source}
use Rattle.jc_command_args.proofs.grammar.upload_command.Goals as goal

pub returns : goal.returns
returns c =
    let kinds = c.with_source.ensures.0 in
    let none = new_app (codes "upload") in
    let sourced = with_source kinds none in
    let limited = with_rule sourced (number_rule (codes "limit")) in (
      kinds,
      c.with_source.ensures.1,
      c.arg-3.ensures (with_rule limited (number_rule (codes "bytes"))) (flag_rule (codes "whole"))
          (c.arg-2.ensures limited (number_rule (codes "bytes"))
          (c.arg.ensures sourced (number_rule (codes "limit")) (c.with_source.ensures.2 none c.new_command-command.ensures)
          c.number_arg.ensures) c.number_arg-2.ensures) c.flag_arg.ensures,
    )
