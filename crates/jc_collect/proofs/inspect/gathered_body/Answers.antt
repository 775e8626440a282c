-- What was read of the stream is all of it, or more than a file may have.
use Rattle.std.proofs.Common.{ℕ, List, Some, subst}
use Rattle.std.proofs.lemmas.Result.{IfOk-weaker}
use Rattle.jc_upload.specs.declared.head.Kind.TheVariants.{File}
use Rattle.jc_collect.specs.Inspected.{SaysBodyOf}
use Rattle.jc_collect.proofs.Inspecting.{gathered_says}
use Rattle.jc_collect.proofs.inspect.gathered_body.Goals as goal

pub returns-clause-says : goal.returns-clause-says
returns-clause-says g c =
    let bytes = c.in_ok-bytes.bytes.items in
    let read = c.in_ok-bytes.ensures in
    IfOk-weaker c.file_body.result _ _
    (λ body says. gathered_says c.args.limits.now c.args.bounds.now c.args.version (g.R.ByteStream.remaining c.args.device)
    (g.R.ByteStream.remaining c.read_whole.new.device) bytes body read.came read.end
    (subst (λ (b : List ℕ). SaysBodyOf c.args.limits.now c.args.bounds.now c.args.version File (Some b) body) c.deref.ensures.value says))
    c.file_body.ensures.says
