-- Each entry takes of the room what its text has.
use Rattle.std.proofs.Common.{rules}
use Rattle.jc_sender.proofs.Room.{goes_on, stops}
use Rattle.jc_sender.proofs.within.count_within.Goals as goal

pub returns-then-is_none : goal.returns-then-is_none
returns-then-is_none c =
    stops c.args.most c.args.entries.now c.entry-item.result c.loop-entry.entry-index c.len.result c.loop-entry.room
    c.room_behind-room.result c.loop-entry-test.true c.entry-item.is (search rules) c.loop-entry.invariant.room
    c.room_behind-room.ensures c.loop-entry.count c.max.result c.loop-entry.invariant.counted c.loop-entry.invariant.some
    (search rules) (search rules)

pub loop-entry-preserved : goal.loop-entry-preserved
loop-entry-preserved c = record {
  counted = search rules;
  room =
      goes_on c.args.most c.args.entries.now c.entry-item.result c.loop-entry.entry-index c.len.result c.loop-entry.room
      c.room_behind-room.result c.loop-entry-test.true c.entry-item.is (search rules) c.loop-entry.invariant.room
      c.room_behind-room.ensures;
  some = search rules;
}
