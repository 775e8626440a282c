use Rattle.std.proofs.Common.{rules}
use Rattle.jc_world.specs.Event.{Happens}
use Rattle.jc_world.specs.Kept.{IsKept}
use Rattle.jc_world.specs.Schedule.{Grows}
use Rattle.jc_world.specs.World.{limits_of, state_of}
use Rattle.jc_world.proofs.Running.{by_steps, happens_grows}
use Rattle.jc_world.proofs.world.World.step.Goals as goal

pub returns-clause-kept : goal.returns-clause-kept
returns-clause-kept g c = λ sound made kept.
    let s = state_of g.K.Keeper.journal c.args.self.now in
    by_steps (Happens (limits_of c.args.self.now) s c.args.event.now) (IsKept (limits_of c.args.self.now)) s
    (state_of g.K.Keeper.journal c.take.new.self) c.take.result
    (λ u h. c.events_keep.ensures.kept (limits_of c.args.self.now) s u c.args.event.now kept h) kept (c.take.ensures.step sound made)

pub returns-clause-grows : goal.returns-clause-grows
returns-clause-grows g c = λ sound made.
    let s = state_of g.K.Keeper.journal c.args.self.now in
    by_steps (Happens (limits_of c.args.self.now) s c.args.event.now) (Grows s) s
    (state_of g.K.Keeper.journal c.take.new.self) c.take.result
    (λ u h. happens_grows (limits_of c.args.self.now) s u c.args.event.now h) (λ e stored. stored) (c.take.ensures.step sound made)

pub returns-clause-step : goal.returns-clause-step
returns-clause-step g c = search rules
