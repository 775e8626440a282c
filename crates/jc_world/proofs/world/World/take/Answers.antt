use Rattle.std.proofs.Common.{ℕ, List, sym, subst}
use Rattle.jc_world.specs.Event.{DeliversAlien, Happens}
use Rattle.jc_world.specs.Stepped.{Steps}
use Rattle.jc_world.specs.World.{limits_of, state_of}
use Rattle.jc_world.specs.declared.event.Event.{Event}
use Rattle.jc_world.proofs.world.World.take.Goals as goal

pub returns-in-Alien-clause-step : goal.returns-in-Alien-clause-step
returns-in-Alien-clause-step g c = λ sound made.
    let s = state_of g.K.Keeper.journal c.args.self.now in
    let t = state_of g.K.Keeper.journal c.deliver_alien.new.self in
    subst (λ (event : Event). Steps (Happens (limits_of c.args.self.now) s event) s c.deliver_alien.result t) (sym c.in-Alien.is)
    (subst (λ (bytes : List ℕ). Steps (DeliversAlien (limits_of c.args.self.now) s bytes) s c.deliver_alien.result t) c.deref-in-Alien.ensures.value
    (c.deliver_alien.ensures.step sound made))
