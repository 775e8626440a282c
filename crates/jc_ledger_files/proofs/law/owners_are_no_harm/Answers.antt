use Rattle.jc_ledger_files.specs.OwnersLaws.{owners_are_no_harm, owners_are_told}
use Rattle.jc_ledger_files.proofs.law.owners_are_no_harm.Goals as goal

pub returns-clause-known : goal.returns-clause-known
returns-clause-known c = owners_are_no_harm

pub returns-clause-told : goal.returns-clause-told
returns-clause-told c = owners_are_told
