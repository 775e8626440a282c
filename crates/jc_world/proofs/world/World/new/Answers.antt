use Rattle.std.proofs.Common.{List, map, ap, subst, ◌∙◌, rules}
use Rattle.jc_base.specs.declared.id.Id128.{Id128}
use Rattle.jc_world.specs.State.{AreDistinct, new_machine}
use Rattle.jc_world.proofs.Keeping.{begun_kept}
use Rattle.jc_world.proofs.Steps.{map_none}
use Rattle.jc_world.proofs.world.World.new.Goals as goal

pub returns-clause-kept : goal.returns-clause-kept
returns-clause-kept g c =
    let ids = c.args.sources.items in
    let distinct : AreDistinct ids = subst AreDistinct c.deref.ensures.value (c.are_distinct.ensures.0 c.if-not-are_distinct.false) in
    begun_kept c.args.limits ids _ (c.in_ok-machines.ensures ∙ ap (λ (l : List Id128). map new_machine l) c.deref-2.ensures.value)
    (map_none (λ u. u.items) c.new.result.items c.new.ensures.items) c.new-2.ensures.items
    (c.events_keep.ensures.begun c.args.limits ids (g.K.Keeper.journal c.args.keeper) distinct)

pub returns-clause-limits : goal.returns-clause-limits
returns-clause-limits g c = search rules
