-- One upload that is answered once it is stored. (own)
use Rattle.std.specs.Prelude.{◌==◌, IsTrue, List, ℕ, Option, Some, if◌then◌else◌}
use Rattle.jc_base.specs.declared.fault.Code.TheVariants.{Conflict, NotTheOwner, StoreFailed}
use Rattle.jc_base.specs.declared.limits.Limits.{Limits}
use Rattle.jc_base.specs.Fault.{number_of}
use Rattle.jc_keeper.specs.declared.keeper.KeepStop.{KeepStop}
use Rattle.jc_keeper.specs.declared.keeper.Keeper as keepers
use Rattle.jc_keeper.specs.Crash.{AddsOnly}
use Rattle.jc_keeper.specs.Keeping.{code_of_stop}
use Rattle.jc_upload.specs.declared.answer.Answer.{Answer}
use Rattle.jc_upload.specs.declared.answer.Answer.TheVariants.{Ack, No}
use Rattle.jc_collect.specs.Chain.{is_acknowledged}
use Rattle.jc_collect.specs.Crash.{IsUnstored, TakesUpload}
use Rattle.jc_collect.specs.Foreign.{NamesForeign}
use Rattle.jc_collect.specs.Position.{Collects, HasCause, HasCode}
use Rattle.jc_collect.specs.Taken.{Brings, Claims}

-- The answer to an upload, if what was to be stored with it can't be. What a conflict is with may be of that.
abbrev pub withdrawn : KeepStop → Answer → Answer
withdrawn stop (Ack source start count new left) = No (Some (source, start)) (number_of (code_of_stop stop)) 0
withdrawn stop (No of code place) =
    if code == number_of Conflict then No of (number_of (code_of_stop stop)) 0 else No of code place

-- An upload was taken up and stored, or not, and answered.
pub record HasAnswered {K : Type 0} (k : keepers.Ghosts K) (limits : Limits) (known : Option (List ℕ)) (old new : K) (answer : Answer) : Type 0 where
  pub position : k.sound old → k.made old → k.sound new → Collects limits known (k.journal old) answer (k.journal new)
  pub was_sound : k.sound new → k.sound old
  pub was_clean : k.clean new → k.clean old
  -- what is acknowledged is stored, and nothing waits
  pub acknowledged : k.clean new → k.made old → IsTrue (is_acknowledged answer) → k.sound new
  pub stored : IsTrue (is_acknowledged answer) → k.settled new
  pub settled : k.settled old → k.settled new
  pub crash : k.clean new → k.made old → AddsOnly (k.may_leave old) (k.may_leave new) (λ found. k.sound old × TakesUpload limits known (k.journal old) answer found)
  pub recovers : k.clean new → k.made old → k.leaves_journals old → k.leaves_journals new
  pub stays_made : k.made old → k.made new
  pub owner : HasCode answer NotTheOwner → k.has_owners
  pub foreign : k.sound new → (machine : Option (List ℕ)) → k.brings old machine → NamesForeign limits known ((k.whose old).foreign machine) answer
  pub brought : Brings k old new
  pub claimed : Claims k (IsUnstored answer) old new
  pub store : HasCause StoreFailed (k.failures old) (k.failures new) answer
