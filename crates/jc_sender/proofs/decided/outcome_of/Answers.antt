-- A line is at most one answer's.
use Rattle.jc_sender.proofs.Acknowledging.{none_said, one_said}
use Rattle.jc_sender.proofs.decided.outcome_of.Goals as goal

pub returns-in-Some : goal.returns-in-Some
returns-in-Some c =
    one_said c.args.sent c.args.line.now c.read.result c.read.ensures.only c.in-Some.answer c.in-Some.is c.in-Some.ensures.found.0
    c.in-Some.ensures.found.1 c.outcome_by.result c.outcome_by.ensures

pub returns-in-None : goal.returns-in-None
returns-in-None c = none_said c.args.sent c.args.line.now c.read.result c.read.ensures.only c.in-None.is
