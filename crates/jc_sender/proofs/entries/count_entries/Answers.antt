use Rattle.std.proofs.Common.{rules}
use Rattle.jc_sender.proofs.entries.count_entries.Goals as goal

pub returns-in-Bad-clause-counted : goal.returns-in-Bad-clause-counted
returns-in-Bad-clause-counted g c = search rules
