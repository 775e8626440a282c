use Rattle.std.proofs.Common.{◌≡◌, []}
use Rattle.std.specs.Io.KnownBytes.{Keeps}
use Rattle.jc_command_shared.specs.declared.status.Status.TheVariants.{Success}
use Rattle.jc_collector_answers.specs.Collected.{told_within}
use Rattle.jc_collector_answers.specs.Kept.{HasKept}
use Rattle.jc_collector_answers.proofs.Collecting.{SoFar}
use Rattle.jc_collector_answers.proofs.named.answer_names_within.Given as goal

-- each name so far was answered, and nothing that was stored is lost
abbrev pub invariant-groups : goal.invariant-groups
invariant-groups g l = record {
  quiet : l.status ≡ Success → Keeps (g.E.Write.contents l.fn.errors) (g.E.Write.contents l.errors);
  kept : HasKept g.K.Keeper l.fn.keeper l.keeper;
  answers : SoFar (told_within l.fn.most_windows g.R.System.told) l.fn.lines (g.L.Read.remaining l.fn.names) g.K.Keeper (g.L.Read.remaining l.names) l.fn.keeper l.keeper l.status
      (g.O.Write.contents l.fn.output) (g.O.Write.contents l.output);
  none : l.gathered.answers.items ≡ [];
}
