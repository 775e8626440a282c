use Rattle.jc_upload.proofs.HeadLemmas.{one_head as same_head, no_head_fault, front_fault}
use Rattle.jc_upload.proofs.head.one_head.Goals as goal

pub returns-clause-one : goal.returns-clause-one
returns-clause-one c = same_head

pub returns-clause-passes : goal.returns-clause-passes
returns-clause-passes c head body fault ok = no_head_fault head body ok fault

pub returns-clause-front : goal.returns-clause-front
returns-clause-front c = front_fault
