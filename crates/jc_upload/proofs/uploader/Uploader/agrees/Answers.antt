use Rattle.std.proofs.Common.{rules}
use Rattle.jc_upload.proofs.uploader.Uploader.agrees.Goals as goal

pub returns-then-position-entries : goal.returns-then-position-entries
returns-then-position-entries c = search rules
