use Rattle.std.proofs.Common.{◌≡◌, ◌≤◌, false, length}
use Rattle.std.specs.Io.KnownBytes.{Keeps}
use Rattle.std.specs.List.{list_any}
use Rattle.jc_collector_answers.specs.Answered.{is_refusal}
use Rattle.jc_collector_answers.specs.Collected.{told_within}
use Rattle.jc_collector_answers.proofs.Grouping.{ComeSoFar}
use Rattle.jc_collector_answers.proofs.grouped.gather_lines.Given as goal

-- the uploads of the lines so far were taken up
abbrev pub invariant-loop-taken : goal.invariant-loop-taken
invariant-loop-taken g l = record {
  so : ComeSoFar g.K.Keeper l.limits (told_within l.most_windows g.R.System.told) l.lines (g.L.Read.remaining l.fn.names) (g.L.Read.remaining l.names) l.fn.keeper l.keeper l.gathered.answers.items;
  few : length l.gathered.answers.items ≤ l.taken;
  quiet : list_any is_refusal l.gathered.answers.items ≡ false → Keeps (g.E.Write.contents l.fn.errors) (g.E.Write.contents l.errors);
}
