-- What becomes of a ledger while what a database lists is noted. (own)
use Rattle.std.specs.Prelude.{Result, MatchResult, OnOk}
use Rattle.jc_base.specs.Journal.{Journal}
use Rattle.jc_ledger.specs.Crash.{AddsOnly}
use Rattle.jc_ledger.specs.Kept.{ComesToo, IsKept, NoneCollide}
use Rattle.jc_ledger.specs.Lagging.{LagsBehind, MayCatchUp}
use Rattle.jc_ledger.specs.declared.ledger.Ledger as ledgers
use Rattle.jc_collector.specs.UnionOpened.{MayStop}
use Rattle.jc_collector.specs.declared.into_union.opening.OpenStop.{OpenStop}

-- A ledger that lagged behind a journal, of which this holds, has caught up with it, or why it hasn't is the result.
pub record CatchesUp {N T : Type 0} (n : ledgers.Ghosts N) (Lists : Journal → Type 0) (old new : N) (result : Result T OpenStop) : Type 0 where
  pub kept : n.clean new → NoneCollide (n.came new)
      → (past noted now : Journal) → IsKept (n.known old) past noted (n.came old) → LagsBehind past noted now → Lists now
      → MatchResult result (λ _. IsKept (n.known new) past now (n.came new)) (MayStop now)
  -- after a crash meanwhile the rest may be noted again
  pub crash : n.clean new → NoneCollide (n.came new)
      → (past noted now : Journal) → IsKept (n.known old) past noted (n.came old) → LagsBehind past noted now → Lists now
      → AddsOnly (n.may_leave old) (n.may_leave new) (λ found. MayCatchUp found past now (n.came new))
  pub sound : n.clean new → OnOk result (n.sound new)
  -- what is sound now was sound before, and what has returned what was written had done so before
  pub was_sound : n.sound new → n.sound old
  pub was_clean : n.clean new → n.clean old
  pub comes : ComesToo (n.came old) (n.came new)
