-- Each answer was taken after the one before it.
use Rattle.jc_upload.proofs.Marking.{takes_next}
use Rattle.jc_upload.proofs.uploader.Uploader.take_answers.Goals as goal

pub loop-answer-preserved : goal.loop-answer-preserved
loop-answer-preserved c = λ entries marked asks.
    let before = c.loop-answer.invariant entries marked asks in
    let step = c.take_answer.ensures entries marked before.0 (asks.ends c.loop-answer.answer-index _ c.loop-answer-test.true) in (
      step.1,
      takes_next entries c.args.answers.now c.loop-answer.answer-index _ c.args.self.now c.loop-answer.self c.take_answer.new.self
          c.loop-answer-test.true step.0 before.1,
    )
