use Rattle.std.proofs.Common.{◌≡◌, List, Some, refl, sym, subst, arith, map}
use Rattle.std.specs.List.{slice_get, Contains}
use Rattle.std.proofs.lemmas.Option.{slice_get_within}
use Rattle.jc_base.specs.declared.failure.OutOfMemory.{OutOfMemory}
use Rattle.jc_world.specs.State.{MachineState, source_of}
use Rattle.jc_world.specs.World.{state_of}
use Rattle.jc_world.proofs.Steps.{got, hands, no_hand, stands_at, stands_own}
use Rattle.jc_world.proofs.world.World.hand.Goals as goal

pub returns-in_default-place_of-clause-step : goal.returns-in_default-place_of-clause-step
returns-in_default-place_of-clause-step g c =
    let given : slice_get c.args.self.now.answers.items c.args.answer ≡ Some c.in-Some.answer.now =
    got c.args.self.now.answers.items c.deref.result.now c.args.answer c.in-Some.answer.now c.deref.ensures.value c.in-Some.ensures.lookup.3.0 c.in-Some.ensures.lookup.1 in (
      no_hand (state_of g.K.Keeper.journal c.args.self.now) c.args.answer c.in-Some.answer.now c.in-Some-named.source given
          (sym c.in-Some-named.ensures)
          (subst (λ (ms : List MachineState). ¬ Contains (map source_of ms) c.in-Some-named.source) c.deref-2.ensures.value c.in_default-place_of.ensures),
      refl,
    )

pub index_mut-requires : goal.index_mut-requires
index_mut-requires g c =
    let there = c.in-Some-place_of.ensures in
    let within = slice_get_within c.deref-2.result.now c.in-Some-place_of.machine there.machine there.at in
    omega (arith, within, c.deref-2.ensures.len)

pub hand-requires : goal.hand-requires
hand-requires g c =
    stands_own c.args.self.now.machines.items c.deref-2.result.now c.in-Some-place_of.machine c.in-Some.answer.now c.in-Some-named.source c.index_mut.result.now
    c.deref-2.ensures.value c.in-Some-place_of.ensures c.index_mut.ensures.value c.in-Some-named.ensures

pub returns-clause-step : goal.returns-clause-step
returns-clause-step g c =
    let w = c.args.self.now in
    let machine = c.index_mut.result.now in
    let given : slice_get w.answers.items c.args.answer ≡ Some c.in-Some.answer.now =
    got c.args.self.now.answers.items c.deref.result.now c.args.answer c.in-Some.answer.now c.deref.ensures.value c.in-Some.ensures.lookup.3.0 c.in-Some.ensures.lookup.1 in
    hands OutOfMemory (state_of g.K.Keeper.journal w) _ c.args.answer c.in-Some-place_of.machine c.in-Some.answer.now machine c.hand.new.self c.in_ok-hand.field-0 given
    (stands_at w.machines.items c.deref-2.result.now c.in-Some-place_of.machine c.in-Some-named.source machine c.deref-2.ensures.value
    c.in-Some-place_of.ensures c.index_mut.ensures.value)
    (stands_own w.machines.items c.deref-2.result.now c.in-Some-place_of.machine c.in-Some.answer.now c.in-Some-named.source machine
    c.deref-2.ensures.value c.in-Some-place_of.ensures c.index_mut.ensures.value c.in-Some-named.ensures)
    c.in_ok-hand.ensures refl
