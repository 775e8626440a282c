-- What the source gave is what the stream has.
use Rattle.std.proofs.lemmas.Result.{IfOk-weaker}
use Rattle.jc_collect.proofs.Inspecting.{stream_says}
use Rattle.jc_collect.proofs.inspect.export_body.Goals as goal

pub returns-clause-says : goal.returns-clause-says
returns-clause-says g c =
    IfOk-weaker c.read_body.result _ _
    (λ body has. stream_says c.args.limits.now c.args.bounds.now c.args.version (g.R.ByteStream.remaining c.args.device) _ body c.in_ok-stream.ensures.reading has)
    c.read_body.ensures.has
