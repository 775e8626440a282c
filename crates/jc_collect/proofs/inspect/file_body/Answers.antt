-- What the source gave is what the space has.
use Rattle.std.proofs.lemmas.Result.{IfOk-weaker}
use Rattle.jc_collect.proofs.Inspecting.{file_says}
use Rattle.jc_collect.proofs.inspect.file_body.Goals as goal

pub returns-clause-says : goal.returns-clause-says
returns-clause-says g c =
    IfOk-weaker c.read_body.result _ _
    (λ body has. file_says c.args.limits.now c.args.bounds.now c.args.version (g.B.ByteSpace.bytes c.args.space) _ body c.new-entries.ensures.reading has)
    c.read_body.ensures.has
