use Rattle.std.proofs.Common.{ap, refl, subst, sym, ◌∙◌}
use Rattle.jc_upload.specs.declared.answer.Answer.{Answer}
use Rattle.jc_collect.specs.Delivered.{of_delivery}
use Rattle.jc_collect.specs.Settled.{HasAnswered, withdrawn}
use Rattle.jc_collect.specs.Taken.{HasCollected}
use Rattle.jc_collect.proofs.Settling.{answered_none, answered_ok, answered_withdrawn, never_reads, not_acknowledged, reads_none, unread_none, untouched_none}
use Rattle.jc_collect.proofs.settled.collect_settled.Given.{Over}
use Rattle.jc_collect.proofs.settled.collect_settled.Goals.{After-collect_one-answer}
use Rattle.jc_collect.proofs.settled.collect_settled.Goals as goal

collected : (g : Over) (c : After-collect_one-answer g)
    → HasCollected g.K.Keeper c.args.limits.now (of_delivery g.R.ByteStream.remaining g.B.ByteSpace.bytes c.args.delivery.now) c.args.keeper.now c.collect_one-answer.new.keeper c.collect_one-answer.result
collected g c = let call = c.collect_one-answer.ensures in record {
  position = call.position;
  was_sound = call.before;
  was_clean = call.clean;
  acknowledged = call.acknowledged;
  crash = call.crash;
  recovers = call.recovers;
  stays_made = call.made;
  settled = call.settled;
  owner = call.owner;
  foreign = call.foreign;
  brought = call.brought;
  claimed = call.claimed;
  store = call.store;
}

-- ---- it is stored

pub returns-in-Ok-clause-answers : goal.returns-in-Ok-clause-answers
returns-in-Ok-clause-answers g c =
    let set = c.in-Ok.ensures in
    let one = collected g (goal.at.returns-in-Ok-clause-answers g c).After-collect_one-answer in
    subst (λ (a : Answer). HasAnswered g.K.Keeper c.args.limits.now (of_delivery g.R.ByteStream.remaining g.B.ByteSpace.bytes c.args.delivery.now) c.args.keeper.now c.settle.new.self a) (sym c.in-Ack.is)
    (answered_ok (subst (λ (a : Answer). HasCollected g.K.Keeper c.args.limits.now (of_delivery g.R.ByteStream.remaining g.B.ByteSpace.bytes c.args.delivery.now) c.args.keeper.now c.collect_one-answer.new.keeper a) c.in-Ack.is one)
    set.settled set.same set.before set.clean set.crash set.recovers set.made set.store set.brought set.unclaimed set.answered refl)

-- ---- it isn't

pub returns-in-Err-clause-answers : goal.returns-in-Err-clause-answers
returns-in-Err-clause-answers g c =
    let set = c.in-Err.ensures in
    let one = collected g (goal.at.returns-in-Err-clause-answers g c).After-collect_one-answer in
    answered_withdrawn (subst (λ (a : Answer). HasCollected g.K.Keeper c.args.limits.now (of_delivery g.R.ByteStream.remaining g.B.ByteSpace.bytes c.args.delivery.now) c.args.keeper.now c.collect_one-answer.new.keeper a) c.in-Ack.is one)
    set.settled set.same set.before set.clean set.crash set.recovers set.made set.store set.brought set.unclaimed
    c.in-Err.stop c.withdrawn.result (c.withdrawn.ensures ∙ ap (withdrawn c.in-Err.stop) c.in-Ack.is) refl (never_reads set.never_read) set.shut

pub returns-in-Err-clause-read : goal.returns-in-Err-clause-read
returns-in-Err-clause-read g c = λ code.
    absurd (reads_none _ _ _ c.in-Ack.count c.in-Ack.new c.in-Ack.left (c.withdrawn.ensures ∙ ap (withdrawn c.in-Err.stop) c.in-Ack.is) (never_reads c.in-Err.ensures.never_read) code)

pub returns-in-Err-clause-unread : goal.returns-in-Err-clause-unread
returns-in-Err-clause-unread g c = λ unread. absurd (unread_none _ _ _ c.in-Ack.count c.in-Ack.new c.in-Ack.left (c.withdrawn.ensures ∙ ap (withdrawn c.in-Err.stop) c.in-Ack.is) unread)

pub returns-in-Err-clause-untouched : goal.returns-in-Err-clause-untouched
returns-in-Err-clause-untouched g c = λ none. absurd (untouched_none _ _ _ c.in-Ack.count c.in-Ack.new c.in-Ack.left (c.withdrawn.ensures ∙ ap (withdrawn c.in-Err.stop) c.in-Ack.is) none)

-- ---- it isn't acknowledged

pub returns-in-No-clause-answers : goal.returns-in-No-clause-answers
returns-in-No-clause-answers g c = answered_none (not_acknowledged c.in-No.is) (collected g (goal.at.returns-in-No-clause-answers g c).After-collect_one-answer)
