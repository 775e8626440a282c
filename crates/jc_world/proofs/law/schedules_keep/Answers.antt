use Rattle.jc_world.specs.Kept.{IsKept}
use Rattle.jc_world.proofs.Storing.{each_grows, each_keeps, point_of, stores}
use Rattle.jc_world.proofs.law.schedules_keep.Goals as goal

pub returns-clause-kept : goal.returns-clause-kept
returns-clause-kept c = λ limits s t events kept h. each_keeps limits (IsKept limits) (λ u v event was does. c.events_keep.ensures.kept limits u v event was does) s t events h kept

pub returns-clause-grows : goal.returns-clause-grows
returns-clause-grows c = each_grows

pub returns-clause-stored : goal.returns-clause-stored
returns-clause-stored c = stores c.chain_stored.ensures

pub returns-clause-point : goal.returns-clause-point
returns-clause-point c = point_of
