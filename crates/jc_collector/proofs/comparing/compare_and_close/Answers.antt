-- The closed files have the journal that was listed.
use Rattle.std.proofs.Common.{inl, inr, refl}
use Rattle.jc_collector.specs.Compared.{ComparingFails, Stays}
use Rattle.jc_collector.proofs.OverFiles.{ends_over}
use Rattle.jc_collector.proofs.Results.{IfOk-both, IfOk-each, failure_in_other}
use Rattle.jc_collector.proofs.comparing.compare_and_close.Goals as goal

pub returns-clause-sound : goal.returns-clause-sound
returns-clause-sound g c = IfOk-each c.close_after.result _ _ (λ closed sound clean. c.list_present-keeper.ensures.before (sound clean)) c.close_after.ensures.sound

pub returns-clause-kept : goal.returns-clause-kept
returns-clause-kept g c =
    let listed = c.list_present-keeper.ensures in
    let first = c.args.keeper.conn in
    let last = c.list_present-keeper.result.0.conn in
    IfOk-both c.close_after.result _ _ _
    (λ closed sound always. ends_over g.L.Layout.meaning first last last listed.before listed.keeps.made Stays
    (λ now made. listed.keeps.same (listed.before now) made now)
    (λ now. now) (record { same = λ _ _ _. refl; made = λ made. made }) closed.files sound always)
    c.close_after.ensures.sound c.close_after.ensures.keeps

pub returns-clause-failed : goal.returns-clause-failed
returns-clause-failed g c =
    failure_in_other c.close_after.result c.compare_listed-comparison.result (λ failed. failed.failure) _ ComparingFails c.close_after.ensures.failed
    c.compare_listed-comparison.ensures.failed (λ failure is. inr (inl is))
