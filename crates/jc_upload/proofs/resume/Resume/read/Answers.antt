use Rattle.std.proofs.Common.{ap, ◌∙◌}
use Rattle.jc_upload.specs.Reading.{resume_at}
use Rattle.jc_upload.proofs.ResumeLemmas.{resume_read, resume_again}
use Rattle.jc_upload.proofs.resume.Resume.read.Goals as goal

pub returns-clause-found : goal.returns-clause-found
returns-clause-found c = resume_read c.args.text.now c.read_resume.result c.read_resume.ensures

pub returns-clause-only : goal.returns-clause-only
returns-clause-only c point ok is = c.read_resume.ensures ∙ ap resume_at is ∙ resume_again point ok
