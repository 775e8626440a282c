use Rattle.std.proofs.Common.{◌≡◌, None, take}
use Rattle.jc_sender.specs.Within.{IsRoom, upload_size}
use Rattle.jc_sender.proofs.within.count_within.Given as goal

abbrev pub invariant-loop-entry : goal.invariant-loop-entry
invariant-loop-entry l = record {
  counted : l.count ≡ l.entry-index;
  room : IsRoom l.most (upload_size (take l.entry-index l.entries)) l.room;
  some : l.room ≡ None → l.count ≡ 0;
}
