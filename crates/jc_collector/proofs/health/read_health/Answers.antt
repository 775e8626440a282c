-- The journal that the files had is counted.
use Rattle.jc_command_args.specs.declared.request.Tables.TheVariants.{ByKey, ByNumber}
use Rattle.jc_collector.specs.Checked.{Counts}
use Rattle.jc_collector.proofs.Found.{leads_found}
use Rattle.jc_collector.proofs.health.read_health.Goals as goal

pub returns-in_ok-count_and_close-in-Ok-ByKey-clause-counted : goal.returns-in_ok-count_and_close-in-Ok-ByKey-clause-counted
returns-in_ok-count_and_close-in-Ok-ByKey-clause-counted g c =
    let found = rw c.in-Ok-ByKey.field-0-is at c.in-Ok-ByKey.ensures.found in
    let it = c.in_ok-count_and_close-in-Ok-ByKey in
    rw (c.closed.ensures.files, c.closed.ensures.value)
    (λ made. leads_found made ByKey g.F.OpenFromFiles.first c.in-Ok-ByKey.keeper.conn it.field-0.files (found made) it.ensures.sound
    (Counts it.field-0.value) it.ensures.counted)

pub returns-in_ok-count_and_close-in-Ok-ByNumber-clause-counted : goal.returns-in_ok-count_and_close-in-Ok-ByNumber-clause-counted
returns-in_ok-count_and_close-in-Ok-ByNumber-clause-counted g c =
    let found = rw c.in-Ok-ByNumber.field-0-is at c.in-Ok-ByNumber.ensures.found in
    let it = c.in_ok-count_and_close-in-Ok-ByNumber in
    rw (c.closed-in-Ok-ByNumber.ensures.files, c.closed-in-Ok-ByNumber.ensures.value)
    (λ made. leads_found made ByNumber g.F.OpenFromFiles.first c.in-Ok-ByNumber.keeper.conn it.field-0.files (found made) it.ensures.sound
    (Counts it.field-0.value) it.ensures.counted)
