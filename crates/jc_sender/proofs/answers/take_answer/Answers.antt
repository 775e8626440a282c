-- The answer moved the sender on, or not.
use Rattle.jc_sender.proofs.Taking.{takes_of}
use Rattle.jc_sender.proofs.answers.take_answer.Goals as goal

pub returns : goal.returns
returns c =
    takes_of c.args.entries.now c.args.answer.now c.args.uploader.now c.on_answer.new.self c.on_answer.result
    c.on_answer.ensures.when c.on_answer.ensures.moved c.on_answer.ensures.same
