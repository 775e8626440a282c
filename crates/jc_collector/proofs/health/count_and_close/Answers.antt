-- The closed files have the journal that was counted.
use Rattle.std.proofs.Common.{inl, refl}
use Rattle.jc_collector.specs.Checked.{Counts, IsHealth}
use Rattle.jc_collector.specs.Database.{IsStoreFailure}
use Rattle.jc_collector.proofs.OverFiles.{ends_over}
use Rattle.jc_collector.proofs.Results.{IfOk-each, IfOk-three, at_ok, failure_in_other, value_of_other}
use Rattle.jc_collector.proofs.health.count_and_close.Goals as goal

pub returns-clause-sound : goal.returns-clause-sound
returns-clause-sound g c = IfOk-each c.close_after.result _ _ (λ closed sound clean. c.count-counted.ensures.before (sound clean)) c.close_after.ensures.sound

pub returns-clause-counted : goal.returns-clause-counted
returns-clause-counted g c =
    let counted = c.count-counted.ensures in
    let first = c.args.keeper.conn in
    let last = c.count-counted.new.keeper.conn in
    IfOk-three c.close_after.result _ _ _ _
    (λ closed done sound always. ends_over g.L.Layout.meaning first last last counted.before counted.keeps.made (Counts closed.value)
    (λ now made. record {
      counted = at_ok c.count-counted.result closed.value _ done (counted.counted now made);
      stays = counted.keeps.same (counted.before now) made now;
    })
    (λ now. now) (record { same = λ _ _ _. refl; made = λ made. made }) closed.files sound always)
    c.close_after.ensures.done c.close_after.ensures.sound c.close_after.ensures.keeps

pub returns-clause-health : goal.returns-clause-health
returns-clause-health g c =
    value_of_other c.close_after.result c.count-counted.result (λ closed. closed.value) IsHealth c.close_after.ensures.done c.count-counted.ensures.health

pub returns-clause-failed : goal.returns-clause-failed
returns-clause-failed g c =
    failure_in_other c.close_after.result c.count-counted.result (λ failed. failed.failure) _ IsStoreFailure c.close_after.ensures.failed c.count-counted.ensures.failed
    (λ failure is. inl is)
