use Rattle.std.proofs.Common.{rules}
use Rattle.jc_ledger_files.proofs.steady_owners.SteadyOwnersLedger.claim.Goals as goal

pub returns-clause-owned : goal.returns-clause-owned
returns-clause-owned g c = search rules

pub returns-clause-owners : goal.returns-clause-owners
returns-clause-owners g c = c.claim.ensures.owners

pub returns-clause-call : goal.returns-clause-call
returns-clause-call g c =
    let call = c.claim.ensures.call in
    record { answered = call.answered; was_sound = call.was_sound; was_clean = call.was_clean; comes = call.comes; store = call.store }

pub returns-clause-same : goal.returns-clause-same
returns-clause-same g c = c.claim.ensures.same

pub returns-clause-shut : goal.returns-clause-shut
returns-clause-shut g c = c.claim.ensures.shut

pub returns-clause-none_comes : goal.returns-clause-none_comes
returns-clause-none_comes g c = c.claim.ensures.none_comes

pub returns-clause-crash : goal.returns-clause-crash
returns-clause-crash g c = c.claim.ensures.crash

pub returns-clause-owners_crash : goal.returns-clause-owners_crash
returns-clause-owners_crash g c = c.claim.ensures.owners_crash

pub returns-clause-never_read : goal.returns-clause-never_read
returns-clause-never_read g c = c.claim.ensures.never_read
