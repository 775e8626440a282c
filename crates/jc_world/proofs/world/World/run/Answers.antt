use Rattle.std.proofs.Common.{take}
use Rattle.jc_world.specs.World.{limits_of, state_of}
use Rattle.jc_world.proofs.world.World.run.Goals as goal

pub returns-clause-kept : goal.returns-clause-kept
returns-clause-kept g c = λ sound made kept.
    c.schedules_keep.ensures.kept (limits_of c.args.self.now) (state_of g.K.Keeper.journal c.args.self.now) (state_of g.K.Keeper.journal c.take_each.new.self)
    (take c.take_each.result.taken c.args.events.now) kept (c.take_each.ensures.each sound made)

pub returns-clause-grows : goal.returns-clause-grows
returns-clause-grows g c = λ sound made.
    c.schedules_keep.ensures.grows (limits_of c.args.self.now) (state_of g.K.Keeper.journal c.args.self.now) (state_of g.K.Keeper.journal c.take_each.new.self)
    (take c.take_each.result.taken c.args.events.now) (c.take_each.ensures.each sound made)

pub returns-clause-stored : goal.returns-clause-stored
returns-clause-stored g c = λ sound made.
    c.schedules_keep.ensures.stored (limits_of c.args.self.now) (state_of g.K.Keeper.journal c.args.self.now) (state_of g.K.Keeper.journal c.take_each.new.self)
    (take c.take_each.result.taken c.args.events.now) (c.take_each.ensures.each sound made)
