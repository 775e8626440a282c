-- What contracts see of answers that are gathered. (own)
use Rattle.std.specs.Prelude.{List}
use Rattle.jc_collect.specs.declared.gathered.Gathered.{Gathered}
use Rattle.jc_upload.specs.declared.answer.Answer.{Answer}

-- the answers, in the order of their uploads
abbrev pub answers_in : Gathered → List Answer
answers_in gathered = gathered.answers.items
