-- What answers over a union of databases say is stored and noted, and why there is no union. (own)
use Rattle.std.specs.Prelude.{◌≡◌, ◌⊎◌, ℕ, List, Option, ⊤}
use Rattle.jc_base.specs.declared.fault.Code.TheVariants.{Conflict}
use Rattle.jc_base.specs.LogEntry.{LogEntry}
use Rattle.jc_base.specs.Journal.{Journal}
use Rattle.jc_collect.specs.Each.{NoneAcknowledged}
use Rattle.jc_collector_answers.specs.Collected.{KeepsFirstOf, StoresFirstOf}
use Rattle.jc_command_shared.specs.declared.failure.Failure.{Failure}
use Rattle.jc_command_shared.specs.declared.failure.Failure.TheVariants.{Bad, OutOfMemory, StoreFailed, WriteFailed}
use Rattle.jc_keeper.specs.declared.keeper.KeepStop.TheVariants as keep
use Rattle.jc_ledger.specs.Kept.{IsKept}
use Rattle.jc_ledger.specs.Known.{Known}
use Rattle.jc_ledger.specs.Lagging.{LeaveLagging}
use Rattle.jc_ledger.specs.Union.{union}
use Rattle.jc_collector.specs.declared.into_union.opening.OpenStop.{OpenStop}
use Rattle.jc_collector.specs.declared.into_union.opening.OpenStop.TheVariants as stop
use Rattle.jc_upload.specs.declared.answer.Answer.{Answer}

-- What these answers acknowledge of some uploads is stored in the union of the finished databases and the present one, as long
-- as this is sound, and if they acknowledge any, all that it has is noted. It is found in whatever a crash leaves of the
-- present database, which may be caught up by whatever it leaves of the notes.
pub record HoldsNoted (AreUploads : List (Option (List ℕ)) → Type 0) (past before after : Journal) (Sound : Type 0) (known : Known) (came : LogEntry → Type 0)
    (databases : Journal → Type 0) (ledgers : Known → Type 0) (answers : List Answer) : Type 0 where
  pub stored : Sound → StoresFirstOf AreUploads (union past before) answers (union past after)
  pub noted : Sound → NoneAcknowledged answers ⊎ IsKept known past after came
  pub found : (left : Journal) → databases left → KeepsFirstOf AreUploads (union past before) answers (union past left)
  pub lags : LeaveLagging databases ledgers past came

-- Why a union isn't opened: with a fault, of which nothing is said here, or since a device or memory fails.
abbrev pub WhyNoUnion : Failure → Type 0
WhyNoUnion (Bad fault) = ⊤
WhyNoUnion StoreFailed = ⊤
WhyNoUnion OutOfMemory = ⊤
WhyNoUnion _ = ⊥

-- How a command says why a union isn't opened. An entry that differs has a conflict at its place.
abbrev pub failure_of : OpenStop → Failure
failure_of (stop.Stopped keep.OutOfMemory) = OutOfMemory
failure_of (stop.Stopped keep.StoreFailed) = StoreFailed
failure_of (stop.Stopped keep.ReadFailed) = StoreFailed
failure_of (stop.Differs index) = Bad (record { code = Conflict; place = index })
failure_of (stop.Faulty fault) = Bad fault

-- Why a run over a union fails.
abbrev pub NotedFailsBy : Failure → Type 0
NotedFailsBy failure = WhyNoUnion failure ⊎ (failure ≡ WriteFailed)
