-- Both commands were made, if the whole was.
use Rattle.std.proofs.lemmas.Result.{IfOk-weaker}
use Rattle.jc_command_args.proofs.Commands.{joined}
use Rattle.jc_command_args.proofs.making.Making.subcommand.Goals as goal

pub returns : goal.returns
returns c = λ app sub_app is has.
    IfOk-weaker c.joined.result _ _ (λ whole adds.
    joined c.args.self.command c.args.sub.command whole.value app sub_app adds is has) c.joined.ensures
