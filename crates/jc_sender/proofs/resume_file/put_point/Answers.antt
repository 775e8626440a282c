use Rattle.std.proofs.Common.{rules}
use Rattle.jc_sender.proofs.resume_file.put_point.Goals as goal

pub returns-clause-whole : goal.returns-clause-whole
returns-clause-whole g c = search rules
