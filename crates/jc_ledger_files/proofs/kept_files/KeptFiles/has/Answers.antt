use Rattle.std.proofs.Common.{rules}
use Rattle.jc_ledger_files.proofs.kept_files.KeptFiles.has.Goals as goal

pub returns-clause-here : goal.returns-clause-here
returns-clause-here g c = search rules
