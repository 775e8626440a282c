use Rattle.std.proofs.Common.{ap, ◌∙◌}
use Rattle.jc_upload.specs.Reading.{answer_at}
use Rattle.jc_upload.proofs.AnswerLemmas.{answer_read, answer_again}
use Rattle.jc_upload.proofs.answer.Answer.read.Goals as goal

pub returns-clause-found : goal.returns-clause-found
returns-clause-found c = answer_read c.args.line.now c.read_answer.result c.read_answer.ensures

pub returns-clause-only : goal.returns-clause-only
returns-clause-only c answer ok is = c.read_answer.ensures ∙ ap answer_at is ∙ answer_again answer ok
