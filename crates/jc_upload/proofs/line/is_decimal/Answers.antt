use Rattle.std.proofs.Common.{rules}
use Rattle.jc_upload.proofs.line.is_decimal.Goals as goal

pub returns-clause-same : goal.returns-clause-same
returns-clause-same c = search rules
