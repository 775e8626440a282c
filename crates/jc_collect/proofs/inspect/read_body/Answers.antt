use Rattle.std.proofs.Common.{rules}
use Rattle.jc_collect.proofs.inspect.read_body.Goals as goal

pub returns-in-Some-clause-has : goal.returns-in-Some-clause-has
returns-in-Some-clause-has g c = search rules
