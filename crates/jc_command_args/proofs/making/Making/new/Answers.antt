-- The command in the box is the one that was handed in.
use Rattle.std.proofs.lemmas.Result.{IfOk-weaker}
use Rattle.jc_command_args.proofs.Commands.{boxed}
use Rattle.jc_command_args.proofs.making.Making.new.Goals as goal

pub returns : goal.returns
returns c = λ app is.
    IfOk-weaker c.boxed.result _ _ (λ new same. boxed c.args.command new.value app same is) c.boxed.ensures
