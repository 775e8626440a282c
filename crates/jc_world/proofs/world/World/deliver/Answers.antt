use Rattle.std.proofs.Common.{◌≡◌, ◌≤◌, ℕ, List, Some, length, take, refl, subst, arith}
use Rattle.std.specs.List.{slice_get}
use Rattle.jc_world.specs.Stepped.{IsAnswered}
use Rattle.jc_world.specs.World.{state_of}
use Rattle.jc_world.proofs.Steps.{delivers, got, map_get}
use Rattle.jc_world.proofs.world.World.deliver.Goals as goal

pub returns-clause-step : goal.returns-clause-step
returns-clause-step g c = λ sound made.
    let w = c.args.self.now in
    let s = state_of g.K.Keeper.journal w in
    let upload = c.in-Some.bytes.now in
    let found : slice_get w.uploads.items c.args.upload ≡ Some upload =
    got w.uploads.items c.deref.result.now c.args.upload upload c.deref.ensures.value c.in-Some.ensures.lookup.3.0 c.in-Some.ensures.lookup.1 in
    let at : slice_get s.uploads c.args.upload ≡ Some upload.items = map_get (λ u. u.items) w.uploads.items c.args.upload upload found in
    let within : c.args.cut ≤ length upload.items = omega (arith, c.if-cut-len.false, c.len.ensures, upload.ok.0) in
    let answered : IsAnswered w.limits (take c.args.cut upload.items) s.journal s.answers c.collect.new.answers.items (g.K.Keeper.journal c.collect.new.keeper) =
    subst (λ (bytes : List ℕ). IsAnswered w.limits (take c.args.cut bytes) s.journal s.answers c.collect.new.answers.items (g.K.Keeper.journal c.collect.new.keeper))
    c.deref-2.ensures.value (c.in_ok-collect.ensures.ok sound made) in
    delivers w.limits s _ c.args.upload c.args.cut upload.items c.collect.new.answers.items (g.K.Keeper.journal c.collect.new.keeper) at within answered refl
