-- What becomes of a union that is to be opened and collected into, and what the printed answers say of it. (own)
use Rattle.std.specs.Prelude.{ℕ, List, Option, Result, IfErr, OnOk}
use Rattle.sqlite.specs.Held.{Held, state}
use Rattle.sqlite.specs.State.{HasCleanDisk}
use Rattle.sqlite.specs.Store.{Ghosts}
use Rattle.jc_base.specs.Journal.{Journal}
use Rattle.jc_collector_answers.specs.Kept.{HoldsPrinted, Printing}
use Rattle.jc_command_shared.specs.declared.failure.Failure.{Failure}
use Rattle.jc_command_shared.specs.declared.status.Status.{Status}
use Rattle.jc_keeper.specs.declared.keeper.Keeper as keepers
use Rattle.jc_ledger.specs.declared.ledger.Ledger as ledgers
use Rattle.jc_store.specs.Crash.{MayLeave}
use Rattle.jc_store.specs.Meaning.{AreMade, IsSound, Meaning, journal_of}
use Rattle.jc_collector.specs.Noted.{HoldsNoted}
use Rattle.jc_collector.specs.UnionOpened.{FaultsOver, MayOpen}

-- A union was to be opened of a present database and a ledger, and uploads were to be collected into it. This is what was
-- answered, and the union afterwards, with the present database and the ledger that it has then. What the printed answers
-- acknowledge of these uploads is stored and noted, and found after a crash, if the union might be opened: if printing failed,
-- this holds of those that were printed. Whatever a crash leaves, a union is made of it again.
pub record AnswersNoted (m : Meaning) {S N U : Type 0} (g : Ghosts S) (n : ledgers.Ghosts N) (u : keepers.Ghosts U) (past : Journal) (Whole : Printing)
    (AreUploads : List (Option (List ℕ)) → Type 0) (present : Held S) (ledger : N) (union : U) (present_now : Held S) (ledger_now : N) (result : Result Status Failure) (printed printed_now : Option (List ℕ))
    : Type 0 where
  -- what the printed lines acknowledge is stored and noted, and found after a crash
  pub each : u.clean union → MayOpen m g present (n.known ledger) past (n.came ledger) → n.sound ledger
      → HoldsPrinted Whole (HoldsNoted AreUploads past (journal_of m g present) (journal_of m g present_now) (u.sound union) (n.known ledger_now) (n.came ledger_now)
      (MayLeave m g present_now) (n.may_leave ledger_now)) result printed printed_now
  -- whatever a crash leaves, a union is made of it again
  pub recovers : u.clean union → MayOpen m g present (n.known ledger) past (n.came ledger) → n.sound ledger → u.leaves_journals union
  -- the present database's tables are as they are made, whether it was opened or not
  pub tables : u.clean union → MayOpen m g present (n.known ledger) past (n.came ledger) → AreMade m g present_now
  -- if it fails with a fault, then with that of an entry over the limits
  pub faults : u.clean union → MayOpen m g present (n.known ledger) past (n.came ledger) → IfErr result (FaultsOver (journal_of m g present))
  pub is_made : u.clean union → MayOpen m g present (n.known ledger) past (n.came ledger) → OnOk result (u.made union)
  -- what is sound now was sound before, and what has returned what was written had done so before
  pub was_sound : u.sound union → IsSound g present × n.sound ledger
  pub was_clean : u.clean union → HasCleanDisk (state g present) × n.clean ledger
