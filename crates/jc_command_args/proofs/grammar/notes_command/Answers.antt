-- The folder, and the task.
use Rattle.std.proofs.Common.{codes}
use Rattle.clap.specs.Words.{new_app, with_rule}
use Rattle.jc_command_args.specs.Grammar.{required_rule, task_rule}
use Rattle.jc_command_args.proofs.grammar.notes_command.Goals as goal

pub returns : goal.returns
returns c =
    let tasks = c.task_arg.ensures in
    let none = new_app (codes "notes") in
    let one = with_rule none (required_rule (codes "sequences")) in (
      tasks.0,
      tasks.1,
      c.arg-2.ensures one (task_rule tasks.0)
          (c.arg.ensures none (required_rule (codes "sequences")) c.new_command.ensures c.notes_arg.ensures) tasks.2,
    )
