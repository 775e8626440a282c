use Rattle.std.proofs.Common.{◌≡◌, [], length, subst, refl, arith}
use Rattle.jc_world.proofs.Distinct.{AreNewBelow, distinct_from, id_found, new_more}
use Rattle.jc_world.proofs.world.are_distinct.Goals as goal

pub returns-then-contains : goal.returns-then-contains
returns-then-contains c = id_found c.args.ids.now c.loop-place.place (record { 0 = [] }) c.loop-place-test.true c.if-contains.ensures.cases

pub loop-place-preserved : goal.loop-place-preserved
loop-place-preserved c = new_more c.args.ids.now c.loop-place.place (record { 0 = [] }) c.loop-place.invariant c.if-contains.ensures.cases

pub returns : goal.returns
returns c =
    let whole : c.loop-place.place ≡ length c.args.ids.now = omega (arith, c.loop-place-test.false, c.loop-place.auto.place-end) in
    (λ _. distinct_from c.args.ids.now (subst (AreNewBelow c.args.ids.now) whole c.loop-place.invariant), λ _. refl)
