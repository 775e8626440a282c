-- The command was made, if the one with the argument was.
use Rattle.std.proofs.lemmas.Result.{IfOk-weaker}
use Rattle.jc_command_args.proofs.Commands.{added}
use Rattle.jc_command_args.proofs.making.Making.arg.Goals as goal

pub returns : goal.returns
returns c = λ app rule is has.
    IfOk-weaker c.added.result _ _ (λ new adds. added c.args.self.command c.args.arg new.value app rule adds is has) c.added.ensures
