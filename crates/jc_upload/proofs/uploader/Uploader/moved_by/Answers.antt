use Rattle.std.proofs.Common.{rules}
use Rattle.jc_upload.proofs.uploader.Uploader.moved_by.Goals as goal

pub returns : goal.returns
returns c = search rules
