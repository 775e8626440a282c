-- The journal that the files had is moved, and then counted.
use Rattle.jc_schema_one.specs.Tables.{one}
use Rattle.jc_schema_two.specs.Tables.{two}
use Rattle.jc_collector.proofs.Older.{by_key_alone}
use Rattle.jc_collector.proofs.OverFiles.{went_over}
use Rattle.jc_collector.proofs.migrating.migrated_by_key.Goals as goal

pub returns-in_ok-count_and_close-in-Ok-clause-moved : goal.returns-in_ok-count_and_close-in-Ok-clause-moved
returns-in_ok-count_and_close-in-Ok-clause-moved g c =
    let moved = c.in_ok-go_over-in-Ok.ensures in
    let counted = c.in_ok-count_and_close-in-Ok.ensures in
    rw (c.closed.ensures.files, c.closed.ensures.value)
    (by_key_alone _
    (λ clean before begin.
    let sound = counted.sound clean in
    counted.counted clean before
    (λ _. (
      sound,
      went_over one two c.in-Ok.keeper.conn c.in_ok-go_over-in-Ok.field-0.conn moved.before moved.moved before sound
          (c.in-Ok.ensures.begins (moved.before sound) before begin),
    ))))
