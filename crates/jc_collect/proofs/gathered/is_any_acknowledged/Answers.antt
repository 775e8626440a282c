-- None of them so far acknowledges.
use Rattle.std.proofs.Common.{Some, ap, arith, rules, ◌∙◌}
use Rattle.std.proofs.lemmas.Option.{slice_get-get_or}
use Rattle.jc_upload.specs.declared.answer.Answer.TheVariants.{Ack, No}
use Rattle.jc_collect.proofs.GatheredUploads.{any_at, none_all, none_more}
use Rattle.jc_collect.proofs.gathered.is_any_acknowledged.Goals as goal

pub loop-answer-init : goal.loop-answer-init
loop-answer-init c = tt

pub loop-answer-preserved : goal.loop-answer-preserved
loop-answer-preserved c =
    none_more _ c.loop-answer.answer-index (No c.in-No.of c.in-No.code c.in-No.place) (slice_get-get_or _ _ _ c.loop-answer-test.true ∙ ap (λ a. Some a) c.in-No.is) (λ acks. cc)
    c.loop-answer.invariant

pub returns-in-Ack-clause-any : goal.returns-in-Ack-clause-any
returns-in-Ack-clause-any c = λ yes none.
    any_at _ c.loop-answer.answer-index (Ack c.in-Ack.source c.in-Ack.start c.in-Ack.count c.in-Ack.new c.in-Ack.left)
    (slice_get-get_or _ _ _ c.loop-answer-test.true ∙ ap (λ a. Some a) c.in-Ack.is) (search rules) none

pub returns-clause-none : goal.returns-clause-none
returns-clause-none c = λ no. none_all _ c.loop-answer.answer-index (omega (arith, c.loop-answer-test.false)) c.loop-answer.invariant
