use Rattle.std.proofs.Common.{◌∙◌}
use Rattle.jc_ledger_files.proofs.Adding.{on_ok}
use Rattle.jc_ledger_files.proofs.Calling.{after, called, failed, when_ok}
use Rattle.jc_ledger_files.proofs.stored.write_through.Goals as goal

pub returns-in_err-stored-clause-step : goal.returns-in_err-stored-clause-step
returns-in_err-stored-clause-step g c =
    failed c.from_residual.result c.in_err-stored.was c.from_residual.ensures.1
    (called c.write_at.result c.stored.result c.write_at.ensures.faults c.stored.ensures.ok c.stored.ensures.err (λ _. c.write_at.ensures.usable) c.write_at.ensures.clean)

pub returns-clause-written : goal.returns-clause-written
returns-clause-written g c =
    let holds = on_ok c.write_at.result c.write_at.ensures.written c.in_ok-stored.ensures.ok in
    rw c.sync.ensures.seen (when_ok c.sync.result c.stored-2.result c.stored-2.ensures.ok c.sync.ensures.durable (λ only. record { torn = c.write_at.ensures.others; holds = holds; durable = only }))

pub returns-clause-crash : goal.returns-clause-crash
returns-clause-crash g c = λ file left. c.write_at.ensures.crash file (c.sync.ensures.crash file left)

pub returns-clause-step : goal.returns-clause-step
returns-clause-step g c = after
    (called c.write_at.result c.stored.result c.write_at.ensures.faults c.stored.ensures.ok c.stored.ensures.err (λ _. c.write_at.ensures.usable) c.write_at.ensures.clean)
    (called c.sync.result c.stored-2.result c.sync.ensures.faults c.stored-2.ensures.ok c.stored-2.ensures.err (λ ok. c.sync.ensures.usable ∙ ok) c.sync.ensures.clean)
