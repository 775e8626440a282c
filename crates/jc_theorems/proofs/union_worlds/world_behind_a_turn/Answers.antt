-- What holds of a world that begins so holds behind its events, behind the turn, and behind the events after it.
use Rattle.std.proofs.Common.{◌≡◌, ◌∙◌, ap, subst, sym}
use Rattle.std.proofs.lemmas.Option.{MatchOption-at_some}
use Rattle.jc_base.specs.declared.limits.Limits.{Limits}
use Rattle.jc_world.specs.Kept.{IsKept}
use Rattle.jc_world.specs.State.{State}
use Rattle.jc_world.specs.World.{keeper_of, limits_of}
use Rattle.jc_theorems.specs.InMemory.{InMemory}
use Rattle.jc_theorems.proofs.union_worlds.world_behind_a_turn.Goals as goal

kept_under : (l m : Limits) (s : State) → l ≡ m → IsKept l s → IsKept m s
kept_under l m s same kept = subst (λ (x : Limits). IsKept x s) same kept

pub returns-clause-made : goal.returns-clause-made
returns-clause-made g c = λ sound.
    let turned = c.run-2.ensures.before sound in
    let none = ap (λ (m : InMemory). m.journal) c.in_ok-next.ensures.empty in
    let keeper : keeper_of c.in-Some.world ≡ c.in_ok-union.union = MatchOption-at_some _ _ _ c.in-Some.is c.in_ok-world.ensures.keeper in
    c.run-2.ensures.made (c.turn_world-world.ensures.made tt none tt turned.1.0 (c.run.ensures.made (rw keeper c.in_ok-union.ensures.made)))

pub returns-clause-kept : goal.returns-clause-kept
returns-clause-kept g c = λ sound.
    let turned = c.run-2.ensures.before sound in
    let none = ap (λ (m : InMemory). m.journal) c.in_ok-next.ensures.empty in
    let keeper : keeper_of c.in-Some.world ≡ c.in_ok-union.union = MatchOption-at_some _ _ _ c.in-Some.is c.in_ok-world.ensures.keeper in
    let limits : limits_of c.in-Some.world ≡ c.args.limits = MatchOption-at_some _ _ _ c.in-Some.is c.in_ok-world.ensures.limits in
    let at_first = MatchOption-at_some _ _ _ c.in-Some.is c.in_ok-world.ensures.kept in
    let later : limits_of c.turn_world-world.result.0 ≡ c.args.limits = c.turn_world-world.ensures.limits ∙ (c.run.ensures.limits ∙ limits) in
    let made = c.run.ensures.made (rw keeper c.in_ok-union.ensures.made) in
    let kept = c.run.ensures.kept (c.turn_world-world.ensures.before turned) (rw keeper c.in_ok-union.ensures.made) (rw limits at_first) in
    kept_under _ _ _ later (c.run-2.ensures.kept sound (c.turn_world-world.ensures.made tt none tt turned.1.0 made)
    (kept_under _ _ _ (sym c.turn_world-world.ensures.limits) (c.turn_world-world.ensures.kept none made turned
    (kept_under _ _ _ (sym c.run.ensures.limits) kept))))
