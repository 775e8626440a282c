-- What stands between runs, and where entries are.
use Rattle.std.proofs.Common.{inl, inr, ⊎_elim}
use Rattle.std.specs.List.{AllByRecursion}
use Rattle.jc_base.specs.Journal.{Journal}
use Rattle.jc_base.specs.LogEntry.{LogEntry}
use Rattle.jc_keeper.specs.Agree.{IsStored}
use Rattle.jc_ledger.specs.Kept.{IsKept}
use Rattle.jc_ledger.specs.Known.{Known}
use Rattle.jc_ledger.specs.Lagging.{MayCatchUp}
use Rattle.jc_ledger.specs.Union.{union}
use Rattle.jc_runs.specs.Between.{Between, IsInOne, MayBegin, journals, journals_of}
use Rattle.jc_runs.specs.Stands.{AreApartBut, IsPastBut, Stands}
use Rattle.jc_runs.proofs.Lists.{apart_now}
use Rattle.jc_runs.proofs.Unions.{in_either}

pub stands_if : (b : Between) → MayBegin b → ((e : LogEntry) → IsStored b.past e → IsInOne (journals_of b.earlier) e)
    → AllByRecursion (IsPastBut b.forgotten b.past) (journals_of b.earlier) → AreApartBut b.forgotten (journals_of b.earlier) → Stands b
stands_if b begins backed noted among = record {
  begins = begins;
  backed = backed;
  noted = noted;
  once = apart_now b.forgotten b.past b.now begins.lags.apart (journals_of b.earlier) noted among;
}

-- what is noted in full may be caught up
pub kept_begins : {known : Known} {past now : Journal} {came : LogEntry → Type 0} → IsKept known past now came → MayCatchUp known past now came
kept_begins {now = now} kept = record { noted = now; kept = kept; lags = record { has = λ e stored. stored; apart = kept.apart } }

-- what the union has one of the databases has
pub in_one : (b : Between) → ((e : LogEntry) → IsStored b.past e → IsInOne (journals_of b.earlier) e) → (e : LogEntry)
    → IsStored (union b.past b.now) e → IsInOne (journals b) e
in_one b backed e stored = ⊎_elim (λ now. inl now) (λ past. inr (backed e past)) (in_either b.past b.now e stored)
