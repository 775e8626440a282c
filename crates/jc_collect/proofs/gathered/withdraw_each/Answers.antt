-- Each so far was answered so.
use Rattle.std.proofs.Common.{◌≡◌, ◌++◌, ◌+◌, arith, drop, map, refl, set, subst, sym, take}
use Rattle.std.proofs.lemmas.List.Edits.{map_over_more}
use Rattle.jc_upload.specs.declared.answer.Answer.{Answer}
use Rattle.jc_collect.specs.Settled.{withdrawn}
use Rattle.jc_collect.proofs.GatheredUploads.{get_again, over_all}
use Rattle.jc_collect.proofs.gathered.withdraw_each.Goals as goal

pub loop-answer-init : goal.loop-answer-init
loop-answer-init c = refl

pub loop-answer-preserved : goal.loop-answer-preserved
loop-answer-preserved c =
    let first = c.args.answers.now in
    let i = c.loop-answer.answer-index in
    let f = withdrawn c.args.stop in
    subst (λ (y : Answer). set c.loop-answer.answers i y ≡ map f (take (i + 1) first) ++ drop (i + 1) first) (sym c.withdrawn.ensures)
    (map_over_more f first c.loop-answer.answers i _ (omega (arith, c.loop-answer-test.true, c.loop-answer.auto.answers)) c.loop-answer.invariant
    (get_again c.loop-answer.answers i _ _ (omega (arith, c.loop-answer-test.true, c.loop-answer.auto.answers))))

pub returns : goal.returns
returns c = over_all (withdrawn c.args.stop) c.args.answers.now c.loop-answer.answers c.loop-answer.answer-index
    (omega (arith, c.loop-answer-test.false, c.loop-answer.auto.answers)) c.loop-answer.invariant
