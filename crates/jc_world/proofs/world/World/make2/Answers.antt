use Rattle.std.proofs.Common.{◌≡◌, Some, refl}
use Rattle.std.specs.List.{slice_get}
use Rattle.jc_world.specs.World.{state_of}
use Rattle.jc_world.proofs.Steps.{got, makes2, map_push, same_upload}
use Rattle.jc_world.proofs.world.World.make2.Goals as goal

pub returns-clause-step : goal.returns-clause-step
returns-clause-step g c =
    let s = state_of g.K.Keeper.journal c.args.self.now in
    let upload = c.in_ok-upload.upload in
    let at : slice_get c.args.self.now.machines.items c.args.machine ≡ Some c.in-Some.machine.now =
    got c.args.self.now.machines.items c.deref.result.now c.args.machine c.in-Some.machine.now c.deref.ensures.value c.in-Some.ensures.lookup.3.0 c.in-Some.ensures.lookup.1 in
    makes2 s _ c.args.machine c.args.limit c.args.whole c.in-Some.machine.now upload.items at c.in_ok-upload.ensures.lawful c.in_ok-upload.ensures.upload
    (same_upload s _ upload.items
    (map_push (λ u. u.items) c.args.self.now.uploads.items c.push.new.self.items upload upload.items c.in_ok-push.ensures.items refl))
