-- The journal that the files had is moved, and then counted.
use Rattle.jc_collector.proofs.migrating.migrated_by_number.Goals as goal

pub returns-in_ok-number_fields-in-Ok-clause-moved : goal.returns-in_ok-number_fields-in-Ok-clause-moved
returns-in_ok-number_fields-in-Ok-clause-moved g c =
    rw (c.closed.ensures.files, c.closed.ensures.value)
    (λ kind becomes clean before begin. c.in_ok-number_fields-in-Ok.ensures.moved clean before (λ sound. (c.in-Ok.ensures.found sound kind before begin).1))
