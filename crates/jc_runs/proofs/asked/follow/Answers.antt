use Rattle.jc_runs.proofs.Asking.{both_some}
use Rattle.jc_runs.proofs.asked.follow.Goals as goal

pub returns-in-Some-Some-clause-ended : goal.returns-in-Some-Some-clause-ended
returns-in-Some-Some-clause-ended g c = λ told found deeds shape.
    both_some _ _ _ _ _ c.in-Some-Some.is-0 c.in-Some-Some.is-1 (c.next_run.ensures.ended told found deeds shape)
