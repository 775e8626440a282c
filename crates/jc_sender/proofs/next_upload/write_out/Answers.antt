use Rattle.std.proofs.Common.{rules}
use Rattle.jc_sender.proofs.next_upload.write_out.Goals as goal

pub returns-clause-printed : goal.returns-clause-printed
returns-clause-printed g c = search rules
