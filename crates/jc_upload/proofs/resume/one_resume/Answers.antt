use Rattle.jc_upload.proofs.ResumeLemmas.{same_point}
use Rattle.jc_upload.proofs.resume.one_resume.Goals as goal

pub returns : goal.returns
returns c = same_point
