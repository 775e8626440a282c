-- A ledger is caught up with what a database lists.
use Rattle.std.proofs.Common.{◌≡◌, Option, Result, Ok, Err, inl, refl, subst, sym}
use Rattle.std.specs.Prelude.{MatchResult, OnOk}
use Rattle.jc_base.specs.declared.fault.Fault.{Fault}
use Rattle.jc_base.specs.Journal.{Journal}
use Rattle.jc_base.specs.Reading.{Reading}
use Rattle.jc_keeper.specs.declared.keeper.KeepStop.{KeepStop}
use Rattle.jc_ledger.specs.Called.{IsCall}
use Rattle.jc_ledger.specs.Crash.{AddsOnly}
use Rattle.jc_ledger.specs.Kept.{IsKept, NoneCollide}
use Rattle.jc_ledger.specs.Lagging.{EndsIn, GivesAll, IsCaughtUp, LagsBehind, MayCatchUp}
use Rattle.jc_ledger.specs.declared.catching_up.CaughtUp.{CaughtUp}
use Rattle.jc_ledger.specs.declared.ledger.Ledger as ledgers
use Rattle.jc_collector.specs.Noting.{CatchesUp}
use Rattle.jc_collector.specs.UnionOpened.{IsOfOneOver, IsTold, MayStop}
use Rattle.jc_collector.specs.declared.into_union.opening.OpenStop.{OpenStop}
use Rattle.jc_collector.specs.declared.into_union.opening.OpenStop.TheVariants.{Stopped}
use Rattle.jc_collector.proofs.Given.{told_kept}
use Rattle.jc_collector.proofs.Results.{on_any}

may_stop : {T : Type 0} (P : T → Type 0) (m : Journal) (r : Result T OpenStop) (stop : KeepStop) → r ≡ Err (Stopped stop) → MatchResult r P (MayStop m)
may_stop {T = T} P m r stop is = subst (λ (r : Result T OpenStop). MatchResult r P (MayStop m)) (sym is) tt

none_done : {T : Type 0} (P : Type 0) (r : Result T OpenStop) (stop : KeepStop) → r ≡ Err (Stopped stop) → OnOk r P
none_done {T = T} P r stop is = subst (λ (r : Result T OpenStop). OnOk r P) (sym is) tt

module _ {N T : Type 0} (n : ledgers.Ghosts N) (Lists : Journal → Type 0) where
  -- nothing was noted
  pub caught_nothing : (ledger : N) (r : Result T OpenStop) (stop : KeepStop) → r ≡ Err (Stopped stop) → CatchesUp n Lists ledger ledger r
  caught_nothing ledger r stop is = record {
    kept = λ clean apart past noted now kept lags lists. may_stop _ now r stop is;
    crash = λ clean apart past noted now kept lags lists found left. inl left;
    sound = λ clean. none_done _ r stop is;
    was_sound = λ sound. sound;
    was_clean = λ clean. clean;
    comes = λ e came. came;
  }

  -- it holds of no more journals
  pub caught_of : (Listed : Journal → Type 0) {old new : N} {r : Result T OpenStop} → CatchesUp n Lists old new r → ((m : Journal) → Listed m → Lists m)
      → CatchesUp n Listed old new r
  caught_of Listed it fewer = record {
    kept = λ sound apart past noted now kept lags lists. it.kept sound apart past noted now kept lags (fewer now lists);
    crash = λ clean apart past noted now kept lags lists. it.crash clean apart past noted now kept lags (fewer now lists);
    sound = it.sound;
    was_sound = it.was_sound;
    was_clean = it.was_clean;
    comes = it.comes;
  }

  module _ (old new : N) (given : Option Reading) (gives : (m : Journal) → Lists m → GivesAll given m)
      (crash : n.clean new → NoneCollide (n.came new)
      → (past noted now : Journal) → IsKept (n.known old) past noted (n.came old) → LagsBehind past noted now → GivesAll given now
      → AddsOnly (n.may_leave old) (n.may_leave new) (λ found. MayCatchUp found past now (n.came new)))
    where
      pub caught_told : {U : Type 0} (u : U) (is : CaughtUp) (r : Result T OpenStop)
          → (n.sound new → NoneCollide (n.came new)
          → (past noted now : Journal) → IsKept (n.known old) past noted (n.came old) → LagsBehind past noted now → GivesAll given now
          → IsCaughtUp (IsKept (n.known new) past now (n.came new)) given is)
          → IsCall n.clean n.sound n.came n.failures old new (Ok u)
          → ((m : Journal) → Lists m → (fault : Fault) → EndsIn given fault → IsOfOneOver m fault) → IsTold is r → CatchesUp n Lists old new r
      caught_told u is r caught call over told = record {
        kept = λ clean apart past noted now kept lags lists.
            told_kept _ given now is r told (caught (call.answered clean refl) apart past noted now kept lags (gives now lists)) (over now lists);
        crash = λ clean apart past noted now kept lags lists. crash clean apart past noted now kept lags (gives now lists);
        sound = λ clean. on_any r _ (call.answered clean refl);
        was_sound = call.was_sound;
        was_clean = call.was_clean;
        comes = call.comes;
      }

      pub caught_stopped : {U : Type 0} (why stop : KeepStop) (r : Result T OpenStop) → IsCall {T = U} n.clean n.sound n.came n.failures old new (Err why)
          → r ≡ Err (Stopped stop) → CatchesUp n Lists old new r
      caught_stopped why stop r call is = record {
        kept = λ clean apart past noted now kept lags lists. may_stop _ now r stop is;
        crash = λ clean apart past noted now kept lags lists. crash clean apart past noted now kept lags (gives now lists);
        sound = λ clean. none_done _ r stop is;
        was_sound = call.was_sound;
        was_clean = call.was_clean;
        comes = call.comes;
      }
