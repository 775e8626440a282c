-- What is sound once another database is the present one was sound once all was noted.
use Rattle.std.proofs.Common.{ap, arith, subst, sym, ◌∙◌}
use Rattle.std.proofs.lemmas.Result.{on_err_weaker, on_ok_weaker}
use Rattle.jc_world.specs.Kept.{IsKept}
use Rattle.jc_world.specs.World.{limits_of, state_with}
use Rattle.jc_theorems.proofs.Causes.{cause_beside}
use Rattle.jc_theorems.proofs.turning.turn_world.Goals as goal

pub returns-clause-state : goal.returns-clause-state
returns-clause-state g c = λ none made sound.
    c.with_keeper.ensures.state
    ∙ (ap (state_with c.into_parts-machines.result.0) (c.turn.ensures.journal none c.finish-finished.ensures.settled
    ∙ c.finish-finished.ensures.same (rw c.into_parts-machines.ensures.keeper made) (c.turn.ensures.before (rw (← c.with_keeper.ensures.keeper) sound)))
    ∙ c.into_parts-machines.ensures.state)

pub returns-clause-kept : goal.returns-clause-kept
returns-clause-kept g c = λ none made sound.
    subst (IsKept (limits_of c.args.world))
    (sym (c.with_keeper.ensures.state
    ∙ (ap (state_with c.into_parts-machines.result.0) (c.turn.ensures.journal none c.finish-finished.ensures.settled
    ∙ c.finish-finished.ensures.same (rw c.into_parts-machines.ensures.keeper made) (c.turn.ensures.before (rw (← c.with_keeper.ensures.keeper) sound)))
    ∙ c.into_parts-machines.ensures.state)))

pub returns-clause-made : goal.returns-clause-made
returns-clause-made g c = rw (c.with_keeper.ensures.keeper, ← c.into_parts-machines.ensures.keeper) (λ once none next l_sound made.
    c.turn.ensures.made once none next (rw (← c.turn.ensures.ledger) l_sound) c.finish-finished.ensures.settled c.finish-finished.ensures.waiting
    (c.finish-finished.ensures.made made))

pub returns-clause-settled : goal.returns-clause-settled
returns-clause-settled g c = rw (c.with_keeper.ensures.keeper, c.turn.ensures.pending) c.finish-finished.ensures.settled

pub returns-clause-waiting : goal.returns-clause-waiting
returns-clause-waiting g c = rw (c.with_keeper.ensures.keeper, c.turn.ensures.waiting) c.finish-finished.ensures.waiting

pub returns-clause-sound : goal.returns-clause-sound
returns-clause-sound g c = rw (c.with_keeper.ensures.keeper, ← c.into_parts-machines.ensures.keeper) (λ next made clean l_clean s_sound none.
    let turn = c.turn.ensures in
    on_ok_weaker c.finish-finished.result (λ sound. turn.sound next sound)
    (c.finish-finished.ensures.answered
    (rw (← turn.shelf.1) clean, (rw (← turn.ledger) l_clean, (rw (← turn.shelf.0) s_sound, rw (← turn.ledger) none))) made))

pub returns-clause-shut : goal.returns-clause-shut
returns-clause-shut g c = rw c.with_keeper.ensures.keeper
    (on_err_weaker c.finish-finished.result (λ unsound sound. unsound (c.turn.ensures.before sound)) c.finish-finished.ensures.shut)

pub returns-clause-before : goal.returns-clause-before
returns-clause-before g c = rw (c.with_keeper.ensures.keeper, ← c.into_parts-machines.ensures.keeper)
    (λ sound. c.finish-finished.ensures.before (c.turn.ensures.before sound))

pub returns-clause-clean : goal.returns-clause-clean
returns-clause-clean g c = rw (c.with_keeper.ensures.keeper, ← c.into_parts-machines.ensures.keeper)
    (λ clean. c.finish-finished.ensures.clean (c.turn.ensures.clean clean))

pub returns-clause-limits : goal.returns-clause-limits
returns-clause-limits g c = c.with_keeper.ensures.limits ∙ c.into_parts-machines.ensures.limits

pub returns-clause-store : goal.returns-clause-store
returns-clause-store g c = rw (c.with_keeper.ensures.keeper, ← c.into_parts-machines.ensures.keeper) (
    let turn = c.turn.ensures in
    rw (turn.present, turn.shelf.0, turn.shelf.1, turn.ledger, turn.refusals)
    (cause_beside c.finish-finished.ensures.store (g.N.Keeper.failures c.args.next) (omega arith) (omega arith)))
