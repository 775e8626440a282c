use Rattle.std.proofs.Common.{◌+◌, ◌≤◌}
use Rattle.jc_collector.proofs.comparing.compare_entries.Given as goal

abbrev pub invariant-entries : goal.invariant-entries
invariant-entries g l = record {
  bound : l.count + g.S.EntrySource.bound l.entries ≤ g.S.EntrySource.bound l.fn.entries;
  lacking : l.lacking ≤ l.count;
}

abbrev pub decreases-entries : goal.decreases-entries
decreases-entries g l = g.S.EntrySource.bound l.entries
