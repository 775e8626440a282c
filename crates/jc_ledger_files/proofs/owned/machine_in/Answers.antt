use Rattle.std.proofs.Common.{rules}
use Rattle.jc_ledger_files.proofs.owned.machine_in.Goals as goal

pub returns-in-Some : goal.returns-in-Some
returns-in-Some c = search rules
