use Rattle.std.proofs.Common.{◌≡◌, ◌<◌, Some, length, refl, arith}
use Rattle.std.specs.List.{slice_get}
use Rattle.std.proofs.lemmas.Option.{slice_get_read}
use Rattle.jc_base.specs.declared.failure.OutOfMemory.{OutOfMemory}
use Rattle.jc_world.specs.World.{state_of}
use Rattle.jc_world.proofs.Steps.{restarts}
use Rattle.jc_world.proofs.world.World.restart.Goals as goal

pub returns-clause-step : goal.returns-clause-step
returns-clause-step g c =
    let w = c.args.self.now in
    let within : c.args.machine < length w.machines.items = omega (arith, c.if-machine-len.false, c.len.ensures, w.machines.ok.0) in
    let at : slice_get w.machines.items c.args.machine ≡ Some c.index_mut.result.now =
    slice_get_read w.machines.items (length w.machines.items) c.args.machine c.index_mut.result.now refl within c.index_mut.ensures.value in
    restarts OutOfMemory (state_of g.K.Keeper.journal w) _ c.args.machine c.args.point c.index_mut.result.now c.restart.new.self c.restart.result at
    c.restart.ensures refl
