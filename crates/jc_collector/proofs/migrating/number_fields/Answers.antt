-- The journal is moved, and then counted.
use Rattle.jc_schema_one.specs.Tables.{one}
use Rattle.jc_schema_two.specs.Tables.{two}
use Rattle.jc_schema_three.specs.Tables.{three}
use Rattle.jc_collector.proofs.OverFiles.{went_over}
use Rattle.jc_collector.proofs.Results.{IfOk-both, IfOk-each}
use Rattle.jc_collector.proofs.migrating.number_fields.Goals as goal

pub returns-in_ok-raised-in-Oldest-clause-sound : goal.returns-in_ok-raised-in-Oldest-clause-sound
returns-in_ok-raised-in-Oldest-clause-sound g c =
    rw c.in-Oldest.is
    (IfOk-each c.count_and_close.result _ _ (λ closed sound clean. c.in_ok-raised-in-Oldest.ensures.before (sound clean)) c.count_and_close.ensures.sound)

pub returns-in_ok-raised-in-Oldest-clause-moved : goal.returns-in_ok-raised-in-Oldest-clause-moved
returns-in_ok-raised-in-Oldest-clause-moved g c =
    let moved = c.in_ok-raised-in-Oldest.ensures in
    rw c.in-Oldest.is
    (IfOk-both c.count_and_close.result _ _ _
    (λ closed sound counted clean before begin.
    let now = sound clean in
    counted clean before
    (λ _. (now, went_over one three c.in-Oldest.keeper.conn c.in_ok-raised-in-Oldest.field-0.conn moved.before moved.moved before now (begin (moved.before now)))))
    c.count_and_close.ensures.sound c.count_and_close.ensures.counted)

pub returns-in_ok-replaced-in-ByKey-clause-sound : goal.returns-in_ok-replaced-in-ByKey-clause-sound
returns-in_ok-replaced-in-ByKey-clause-sound g c =
    rw c.in-ByKey.is
    (IfOk-each c.count_and_close-in-ByKey.result _ _ (λ closed sound clean. c.in_ok-replaced-in-ByKey.ensures.before (sound clean)) c.count_and_close-in-ByKey.ensures.sound)

pub returns-in_ok-replaced-in-ByKey-clause-moved : goal.returns-in_ok-replaced-in-ByKey-clause-moved
returns-in_ok-replaced-in-ByKey-clause-moved g c =
    let moved = c.in_ok-replaced-in-ByKey.ensures in
    rw c.in-ByKey.is
    (IfOk-both c.count_and_close-in-ByKey.result _ _ _
    (λ closed sound counted clean before begin.
    let now = sound clean in
    counted clean before
    (λ _. (now, went_over two three c.in-ByKey.keeper.conn c.in_ok-replaced-in-ByKey.field-0.conn moved.before moved.moved before now (begin (moved.before now)))))
    c.count_and_close-in-ByKey.ensures.sound c.count_and_close-in-ByKey.ensures.counted)
