-- The files that were opened keep their journal.
use Rattle.jc_command_args.specs.declared.request.Tables.TheVariants.{ByKey, ByNumber}
use Rattle.jc_collector.specs.Compared.{Stays}
use Rattle.jc_collector.proofs.Found.{leads_found}
use Rattle.jc_collector.proofs.comparing.compared.Goals as goal

pub returns-in_ok-compare_and_close-in-Ok-ByKey-clause-kept : goal.returns-in_ok-compare_and_close-in-Ok-ByKey-clause-kept
returns-in_ok-compare_and_close-in-Ok-ByKey-clause-kept g c =
    let found = rw c.in-Ok-ByKey.field-0-is at c.in-Ok-ByKey.ensures.found in
    let it = c.in_ok-compare_and_close-in-Ok-ByKey in
    rw c.closed.ensures.files
    (λ made. leads_found made ByKey g.F.OpenFromFiles.first c.in-Ok-ByKey.keeper.conn it.field-0.files (found made) it.ensures.sound
    Stays it.ensures.kept)

pub returns-in_ok-compare_and_close-in-Ok-ByNumber-clause-kept : goal.returns-in_ok-compare_and_close-in-Ok-ByNumber-clause-kept
returns-in_ok-compare_and_close-in-Ok-ByNumber-clause-kept g c =
    let found = rw c.in-Ok-ByNumber.field-0-is at c.in-Ok-ByNumber.ensures.found in
    let it = c.in_ok-compare_and_close-in-Ok-ByNumber in
    rw c.closed-in-Ok-ByNumber.ensures.files
    (λ made. leads_found made ByNumber g.F.OpenFromFiles.first c.in-Ok-ByNumber.keeper.conn it.field-0.files (found made) it.ensures.sound
    Stays it.ensures.kept)
