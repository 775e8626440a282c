-- Without an entry over the bounds all are within.
use Rattle.jc_collect.proofs.Widening.{keeps}
use Rattle.jc_collect.proofs.wide.refusal_of.Goals as goal

pub returns-in-Upload-clause-says : goal.returns-in-Upload-clause-says
returns-in-Upload-clause-says c = λ limits bounds upload is. keeps limits bounds upload c.args.inspected (λ place same. cc) is

pub returns-in-Bad-clause-says : goal.returns-in-Bad-clause-says
returns-in-Bad-clause-says c = λ limits bounds upload is. keeps limits bounds upload c.args.inspected (λ place same. cc) is
