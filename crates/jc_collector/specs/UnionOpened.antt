-- Of what a union is opened, and why it isn't. (own)
use Rattle.std.specs.Prelude.{◌≡◌, ◌≢◌, Result, Err, IsOk, ⊤}
use Rattle.sqlite.specs.Store.{Ghosts}
use Rattle.sqlite.specs.Held.{Held}
use Rattle.jc_base.specs.declared.fault.Code.TheVariants.{Conflict}
use Rattle.jc_base.specs.declared.fault.Fault.{Fault}
use Rattle.jc_base.specs.declared.limits.Limits.{Limits}
use Rattle.jc_base.specs.Journal.{Journal}
use Rattle.jc_base.specs.Limit.{AreKept}
use Rattle.jc_base.specs.LimitBounds.{AreDefaults}
use Rattle.jc_base.specs.LogEntry.{LogEntry}
use Rattle.jc_command_shared.specs.declared.failure.Failure.{Failure}
use Rattle.jc_command_shared.specs.declared.failure.Failure.TheVariants.{Bad}
use Rattle.jc_keeper.specs.Agree.{IsStored}
use Rattle.jc_ledger.specs.Known.{Known}
use Rattle.jc_ledger.specs.Lagging.{MayCatchUp}
use Rattle.jc_ledger.specs.declared.catching_up.CaughtUp.{CaughtUp}
use Rattle.jc_ledger.specs.declared.catching_up.CaughtUp.TheVariants as caught
use Rattle.jc_store.specs.Meaning.{AreMade, IsSound, Meaning, journal_of}
use Rattle.jc_collector.specs.declared.into_union.opening.OpenStop.{OpenStop}
use Rattle.jc_collector.specs.declared.into_union.opening.OpenStop.TheVariants.{Stopped, Differs, Faulty}

-- The present database is sound, and its tables are made. What is known is what the finished ones have, and some of what it
-- has.
pub record MayOpen (m : Meaning) {S : Type 0} (g : Ghosts S) (present : Held S) (known : Known) (past : Journal) (came : LogEntry → Type 0)
    : Type 0 where
  pub sound : IsSound g present
  pub made : AreMade m g present
  pub lags : MayCatchUp known past (journal_of m g present) came

-- An entry of a journal is over the limits of the programs.
pub record HasOneOver (journal : Journal) : Type 0 where
  pub limits : Limits
  pub defaults : AreDefaults limits.name limits.value limits.fields limits.entry limits.file
  pub entry : LogEntry
  pub stored : IsStored journal entry
  pub beyond : ¬ AreKept limits entry.body.pairs

-- A fault is that of such an entry, and doesn't say that one differs from its note.
pub record IsOfOneOver (journal : Journal) (fault : Fault) : Type 0 where
  pub one : HasOneOver journal
  pub other : fault.code ≢ Conflict

-- Why a union isn't opened that may be: a device or memory fails, or an entry of the present database is over the limits.
abbrev pub MayStop : Journal → OpenStop → Type 0
MayStop journal (Stopped stop) = ⊤
MayStop journal (Differs index) = ⊥
MayStop journal (Faulty fault) = IsOfOneOver journal fault

-- If a run over a union that may be opened fails with a fault, then with that of such an entry.
abbrev pub FaultsOver : Journal → Failure → Type 0
FaultsOver journal (Bad fault) = IsOfOneOver journal fault
FaultsOver journal _ = ⊤

-- what became of a database whose entries were to be noted, as an opening tells it
abbrev pub IsTold : {T : Type 0} → CaughtUp → Result T OpenStop → Type 0
IsTold caught.Done result = IsOk result
IsTold (caught.Differs index) result = result ≡ Err (Differs index)
IsTold (caught.Faulty fault) result = result ≡ Err (Faulty fault)
