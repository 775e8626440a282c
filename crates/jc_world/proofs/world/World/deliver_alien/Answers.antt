use Rattle.std.proofs.Common.{List, map, refl, subst}
use Rattle.jc_world.specs.Event.{IsAlien}
use Rattle.jc_world.specs.State.{MachineState, source_of, sources}
use Rattle.jc_world.specs.World.{state_of}
use Rattle.jc_world.proofs.Steps.{delivers_alien}
use Rattle.jc_world.proofs.world.World.deliver_alien.Goals as goal

pub returns-clause-step : goal.returns-clause-step
returns-clause-step g c = λ sound made.
    let w = c.args.self.now in
    let s = state_of g.K.Keeper.journal w in
    let alien : IsAlien (sources s) c.args.bytes.now =
    subst (λ (ms : List MachineState). IsAlien (map source_of ms) c.args.bytes.now) c.deref.ensures.value (c.is_alien.ensures.0 c.if-not-is_alien.false) in
    delivers_alien w.limits s _ c.args.bytes.now c.collect.new.answers.items (g.K.Keeper.journal c.collect.new.keeper) alien
    (c.in_ok-collect.ensures.ok sound made) refl
