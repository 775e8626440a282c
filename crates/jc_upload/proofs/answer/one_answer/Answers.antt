use Rattle.jc_upload.proofs.AnswerLemmas.{same_answer}
use Rattle.jc_upload.proofs.answer.one_answer.Goals as goal

pub returns : goal.returns
returns c = same_answer
