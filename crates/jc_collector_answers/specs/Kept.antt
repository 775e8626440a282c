-- What becomes of a keeper while uploads are answered, and what the printed answers say of it. (own)
use Rattle.std.specs.Prelude.{ℕ, List, Option, Result, MatchResult}
use Rattle.jc_base.specs.LogEntry.{LogEntry}
use Rattle.jc_collect.specs.Crash.{LosesNothing}
use Rattle.jc_collect.specs.Each.{Held, held}
use Rattle.jc_collect.specs.Run.{OnlyIfOwned}
use Rattle.jc_keeper.specs.declared.keeper.Keeper as keepers
use Rattle.jc_keeper.specs.Agree.{IsStored}
use Rattle.jc_upload.specs.declared.answer.Answer.{Answer}
use Rattle.jc_command_shared.specs.declared.status.Status.{Status}
use Rattle.jc_collector_answers.specs.Collected.{HoldsFirstOf}
use Rattle.jc_collector_answers.specs.Tied.{PrintsFront}

-- A keeper has kept all that it had stored, from one moment to a later one, if its device is sound then. A crash then leaves
-- what it might have left before, or all of that.
pub record HasKept {K : Type 0} (k : keepers.Ghosts K) (old new : K) : Type 0 where
  -- a device that is sound now was sound before, and one that has returned what was written had done so before
  pub was_sound : k.sound new → k.sound old
  pub was_clean : k.clean new → k.clean old
  pub stays_made : k.made old → k.made new
  -- nothing waits to be stored, if nothing did
  pub settled : k.settled old → k.settled new
  -- over a device that is sound now nothing that was stored is lost
  pub stored : k.sound new → k.made old → (e : LogEntry) → IsStored (k.journal old) e → IsStored (k.journal new) e
  -- nor does a crash lose any of it, whether a failure has shut the device or not
  pub crash : k.clean new → k.made old → LosesNothing (k.may_leave old) (k.may_leave new) (k.sound old) (k.journal old)
  pub recovers : k.clean new → k.made old → k.leaves_journals old → k.leaves_journals new

-- what contracts see of a keeper at a moment
abbrev pub held_by : {K : Type 0} → keepers.Ghosts K → K → Held
held_by k keeper = held (k.journal keeper) (k.sound keeper) (k.may_leave keeper)

-- How whole answers are printed of which something holds: with which status, between what a writer had and what it has.
abbrev pub Printing : Type 1
Printing = (Holds : List Answer → Type 0) → Status → (old new : Option (List ℕ)) → Type 0

-- This holds of answers that were printed whole, or, where that failed, of those that were printed, the last perhaps in part.
abbrev pub HoldsPrinted : {F : Type 0} → (Whole : Printing) → (Holds : List Answer → Type 0) → Result Status F → (old new : Option (List ℕ)) → Type 0
HoldsPrinted Whole Holds result old new = MatchResult result (λ status. Whole Holds status old new) (λ _. PrintsFront Holds old new)

-- The printed answers were given to the first ones of some uploads, in this order: to all of them, unless printing or
-- something else failed. What they say is so of the keeper that they were given over, between two moments of it. If
-- printing failed, this holds of those that were printed, the last perhaps in part.
pub record AnswersHold {K F : Type 0} (k : keepers.Ghosts K) (Whole : Printing) (AreUploads : List (Option (List ℕ)) → Type 0) (old new : K)
    (result : Result Status F) (printed printed_now : Option (List ℕ)) : Type 0 where
  -- what they acknowledge is stored, and found after a crash
  pub each : k.clean new → k.made old → HoldsPrinted Whole (HoldsFirstOf AreUploads (held_by k old) (held_by k new)) result printed printed_now
  -- they say that a sequence belongs to another machine only if it may belong to one
  pub owner : HoldsPrinted Whole (OnlyIfOwned k.has_owners) result printed printed_now
