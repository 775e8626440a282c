-- What a call leaves of a keeper that is to take up an upload. (own)
use Rattle.std.specs.Prelude.{ℕ, ◌⊎◌, IsTrue, List, Option, Result}
use Rattle.jc_base.specs.declared.fault.Code.TheVariants.{NotTheOwner, StoreFailed}
use Rattle.jc_base.specs.declared.limits.Limits.{Limits}
use Rattle.jc_base.specs.Reading.{Reading}
use Rattle.jc_keeper.specs.declared.keeper.Absorbed.{Absorbed}
use Rattle.jc_keeper.specs.declared.keeper.KeepStop.{KeepStop}
use Rattle.jc_keeper.specs.declared.keeper.Keeper as keepers
use Rattle.jc_keeper.specs.Absorb.{IsNotTheOwner, IsTakenUp, RefusesFormat}
use Rattle.jc_keeper.specs.Brought.{HasBrought}
use Rattle.jc_keeper.specs.Claimed.{HasClaimed, IsUnanswered}
use Rattle.jc_keeper.specs.Crash.{AddsOnly}
use Rattle.jc_keeper.specs.Keeping.{StoreHasCause}
use Rattle.jc_upload.specs.declared.answer.Answer.{Answer}
use Rattle.jc_collect.specs.Body.{AbsorbsBody}
use Rattle.jc_collect.specs.Chain.{is_acknowledged}
use Rattle.jc_collect.specs.Crash.{IsUnstored, TakesBody, TakesUpload}
use Rattle.jc_collect.specs.Foreign.{NamesForeign, TellsForeignIn}
use Rattle.jc_collect.specs.Position.{Collects, HasCause, HasCode}

-- Between two moments of a keeper what it has stored new belongs to the machine that brings it.
abbrev pub Brings : {K : Type 0} → (k : keepers.Ghosts K) → (old new : K) → Type 0
Brings k old new = HasBrought k.whose k.journal k.sound k.made k.brings old new

-- ... and a sequence comes to belong to that machine alone, and only if an entry of it is stored new, or this failed.
abbrev pub Claims : {K : Type 0} → (k : keepers.Ghosts K) → (Failed : Type 0) → (old new : K) → Type 0
Claims k Failed old new = HasClaimed k.whose k.journal k.sound k.made k.brings Failed old new

-- The body of an upload, which says such a reading, was taken up or not.
pub record HasAbsorbed {K : Type 0} (k : keepers.Ghosts K) (Says : Reading → Type 0) (old new : K) (result : Result Absorbed KeepStop) : Type 0 where
  pub step : k.sound old → k.made old → k.sound new → AbsorbsBody Says (k.journal old) result (k.journal new)
  pub was_sound : k.sound new → k.sound old
  pub was_clean : k.clean new → k.clean old
  -- a device that a failure has shut takes nothing up, or `settle` tells that
  pub taken : k.at_once → k.clean new → IsTakenUp result → k.sound new
  -- a crash leaves what it might have left before, or the journal with all of the body, unless that was refused
  pub crash : k.clean new → k.made old → AddsOnly (k.may_leave old) (k.may_leave new) (λ found. k.sound old × TakesBody Says (k.journal old) result found)
  pub recovers : k.clean new → k.made old → k.leaves_journals old → k.leaves_journals new
  pub stays_made : k.made old → k.made new
  -- only what is taken up may wait to be stored
  pub settled : k.settled old → IsTakenUp result ⊎ k.settled new
  pub format : RefusesFormat result
  pub owner : IsNotTheOwner result → k.has_owners
  pub foreign : k.sound new → (machine : Option (List ℕ)) → k.brings old machine → TellsForeignIn Says ((k.whose old).foreign machine) result
  pub brought : Brings k old new
  pub claimed : Claims k (IsUnanswered result) old new
  pub store : StoreHasCause (k.failures old) (k.failures new) result

-- An upload was taken up or not, and answered.
pub record HasCollected {K : Type 0} (k : keepers.Ghosts K) (limits : Limits) (known : Option (List ℕ)) (old new : K) (answer : Answer) : Type 0 where
  pub position : k.sound old → k.made old → k.sound new → Collects limits known (k.journal old) answer (k.journal new)
  pub was_sound : k.sound new → k.sound old
  pub was_clean : k.clean new → k.clean old
  pub acknowledged : k.at_once → k.clean new → IsTrue (is_acknowledged answer) → k.sound new
  pub crash : k.clean new → k.made old → AddsOnly (k.may_leave old) (k.may_leave new) (λ found. k.sound old × TakesUpload limits known (k.journal old) answer found)
  pub recovers : k.clean new → k.made old → k.leaves_journals old → k.leaves_journals new
  pub stays_made : k.made old → k.made new
  pub settled : k.settled old → IsTrue (is_acknowledged answer) ⊎ k.settled new
  pub owner : HasCode answer NotTheOwner → k.has_owners
  pub foreign : k.sound new → (machine : Option (List ℕ)) → k.brings old machine → NamesForeign limits known ((k.whose old).foreign machine) answer
  pub brought : Brings k old new
  pub claimed : Claims k (IsUnstored answer) old new
  pub store : HasCause StoreFailed (k.failures old) (k.failures new) answer
