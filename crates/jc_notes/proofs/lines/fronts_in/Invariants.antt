use Rattle.std.proofs.Common.{length}
use Rattle.jc_notes.specs.Lines.{front_at}
use Rattle.jc_notes.proofs.Fronts.{AreNamed}
use Rattle.jc_notes.proofs.LinesRead.{AreReadSoFar}
use Rattle.jc_notes.proofs.lines.fronts_in.Given as goal

abbrev pub invariant-loop-rest : goal.invariant-loop-rest
invariant-loop-rest l = record {
  read : AreReadSoFar front_at l.text l.rest l.fronts.items;
  named : AreNamed l.fronts.items l.named;
}

abbrev pub decreases-loop-rest : goal.decreases-loop-rest
decreases-loop-rest l = length l.rest
