use Rattle.std.proofs.Common.{◌≡◌, List, Some, refl, subst}
use Rattle.std.specs.List.{slice_get}
use Rattle.jc_base.specs.LogEntry.{LogEntry}
use Rattle.jc_world.specs.Given.{FileReadsFront}
use Rattle.jc_world.specs.World.{limits_of, state_of}
use Rattle.jc_world.proofs.Steps.{got, makes_file, map_push, same_upload}
use Rattle.jc_world.proofs.world.World.make_file.Goals as goal

pub returns-clause-step : goal.returns-clause-step
returns-clause-step g c =
    let s = state_of g.K.Keeper.journal c.args.self.now in
    let upload = c.in_ok-upload.upload in
    let at : slice_get c.args.self.now.machines.items c.args.machine ≡ Some c.in-Some.machine.now =
    got c.args.self.now.machines.items c.deref.result.now c.args.machine c.in-Some.machine.now c.deref.ensures.value c.in-Some.ensures.lookup.3.0 c.in-Some.ensures.lookup.1 in
    let reads : FileReadsFront c.args.self.now.limits c.args.file.now c.in-Some.machine.now.entries =
    subst (λ (es : List LogEntry). FileReadsFront c.args.self.now.limits c.args.file.now es) c.entries.ensures
    (c.in_ok-reads_front.ensures.0 c.if-not-branch.false) in
    makes_file (limits_of c.args.self.now) s _ c.args.machine c.args.file.now c.in-Some.machine.now upload.items at reads
    c.in_ok-upload.ensures.lawful c.in_ok-upload.ensures.upload
    (same_upload s _ upload.items
    (map_push (λ u. u.items) c.args.self.now.uploads.items c.push.new.self.items upload upload.items c.in_ok-push.ensures.items refl))
