use Rattle.std.proofs.Common.{rules}
use Rattle.jc_upload.proofs.uploader.Uploader.advance.Goals as goal

pub returns-then-end-entries : goal.returns-then-end-entries
returns-then-end-entries c = search rules
