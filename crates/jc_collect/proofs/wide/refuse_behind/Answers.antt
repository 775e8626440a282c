-- What the body says, as far as the bounds go.
use Rattle.std.proofs.Common.{List, Ok, Option, subst, sym, ℕ}
use Rattle.jc_collect.specs.Begun.{BeginsUpload}
use Rattle.jc_collect.specs.Wide.{windows_alone}
use Rattle.jc_collect.proofs.Widening.{refused_by}
use Rattle.jc_collect.proofs.wide.refuse_behind.Goals as goal

pub returns-in-Ok-clause-says : goal.returns-in-Ok-clause-says
returns-in-Ok-clause-says g c = λ upload before known begins.
    refused_by c.args.limits.now (windows_alone c.args.most_windows) upload c.inspect_part.result c.in-Ok.inspected c.refusal_of.result c.in-Ok.is
    (c.inspect_part.ensures.says upload before known
    (subst (λ (behind : Option (List ℕ)). BeginsUpload before behind (Ok c.args.head)) (sym c.new-part.ensures.bytes) begins))
    (c.refusal_of.ensures.says c.args.limits.now (windows_alone c.args.most_windows) upload)
