-- There is an answer for each delivery.
use Rattle.std.proofs.Common.{inl, inr, length, refl, ⊎_elim}
use Rattle.jc_collector.proofs.Counted.{hold_as, with_counted}
use Rattle.jc_collector.proofs.Open.{on_ok_each}
use Rattle.jc_collector.proofs.Results.{IfErr-each}
use Rattle.jc_collector.proofs.uploads.DeliveriesUploadsUnit.answer.Goals as goal

pub returns-clause-answers : goal.returns-clause-answers
returns-clause-answers g c =
    let old = g.O.Write.contents c.args.output.now in
    let new = g.O.Write.contents c.answer_all.new.output in
    hold_as g.K.Keeper _ _ _ _ c.answer_all.result old new (λ Holds status p. with_counted (length c.args.self.deliveries.now) Holds status old new p) c.answer_all.ensures.answers

pub returns-clause-collected : goal.returns-clause-collected
returns-clause-collected g c = λ known have sound made.
    on_ok_each c.answer_all.result _ _
    (λ ran. record { first = _; last = _; ran = ran; journal_before = refl; journal_after = refl; output_before = refl; output_after = refl })
    (c.answer_all.ensures.run sound made known have)

pub returns-clause-crash : goal.returns-clause-crash
returns-clause-crash g c = λ known have clean sound made settled. c.answer_all.ensures.crash clean sound made settled known have

pub returns-clause-crash_unprinted : goal.returns-clause-crash_unprinted
returns-clause-crash_unprinted g c = λ known have clean sound made settled. c.answer_all.ensures.crash_unprinted clean sound made settled known have

pub returns-clause-stopped : goal.returns-clause-stopped
returns-clause-stopped g c =
    IfErr-each c.answer_all.result _ _ (λ failure why. ⊎_elim (λ is. inr (inl is)) (λ is. inr (inr (inr is))) why) c.answer_all.ensures.failed
