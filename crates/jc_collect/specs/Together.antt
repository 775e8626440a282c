-- Uploads that are taken up one after the other, stored together, and then answered. (own)
use Rattle.std.specs.Prelude.{ℕ, ◌≡◌, ◌≤◌, ◌⊎◌, List, [], ◌∷◌, ◌++◌, map, Option, None, Some}
use Rattle.jc_base.specs.declared.fault.Code.TheVariants.{Conflict, NotTheOwner, StoreFailed}
use Rattle.jc_base.specs.declared.limits.Limits.{Limits}
use Rattle.jc_base.specs.Device.{Rose}
use Rattle.jc_base.specs.Journal.{Journal}
use Rattle.jc_keeper.specs.declared.keeper.KeepStop.{KeepStop}
use Rattle.jc_keeper.specs.declared.keeper.Keeper as keepers
use Rattle.jc_keeper.specs.Whose.{StayWhose}
use Rattle.jc_upload.specs.declared.answer.Answer.{Answer}
use Rattle.jc_collect.specs.Each.{CollectsEach, Gathers, HoldsCollected, NoneAcknowledged, held}
use Rattle.jc_collect.specs.Run.{AreCaused}
use Rattle.jc_collect.specs.Settled.{withdrawn}
use Rattle.jc_collect.specs.Taken.{Brings, HasCollected}

-- An upload was taken up or not, over a keeper, and its answer was put behind those that there were.
pub record TakesUp {K : Type 0} (k : keepers.Ghosts K) (limits : Limits) (known : Option (List ℕ)) (old new : K) (answers more : List Answer) : Type 0 where
  pub answer : Answer
  pub behind : more ≡ answers ++ answer ∷ []
  pub collected : HasCollected k limits known old new answer

-- What is answered once they are to be stored: if that failed for this reason, none is acknowledged, or refused for a conflict.
abbrev pub answered : Option KeepStop → List Answer → List Answer
answered None answers = answers
answered (Some stop) answers = map (withdrawn stop) answers

-- Uploads were taken up one after the other, and not yet stored together. A crash leaves what it might have left before, or what
-- the first of them made of the first journal.
pub record HasCollectedAll {K : Type 0} (k : keepers.Ghosts K) (limits : Limits) (known : List (Option (List ℕ))) (old new : K) (answers : List Answer) : Type 0 where
  pub was_sound : k.sound new → k.sound old
  pub was_clean : k.clean new → k.clean old
  pub stays_made : k.made old → k.made new
  -- only what is acknowledged waits to be stored
  pub settled : k.settled old → NoneAcknowledged answers → k.settled new
  pub collected : k.sound new → k.made old → CollectsEach limits known (k.journal old) answers (k.journal new)
  pub found : k.clean new → k.made old → (left : Journal) → k.may_leave new left → k.may_leave old left ⊎ (k.sound old × Gathers limits known (k.journal old) answers left)
  -- what is stored at once is found after a crash, once it is acknowledged
  pub at_once : k.at_once → k.clean new → k.made old → HoldsCollected limits known (held (k.journal old) (k.sound old) (k.may_leave old))
      (held (k.journal new) (k.sound new) (k.may_leave new)) answers
  pub recovers : k.clean new → k.made old → k.leaves_journals old → k.leaves_journals new
  pub owner : AreCaused NotTheOwner answers (λ _. k.has_owners)
  pub never_falls : k.failures old ≤ k.failures new
  pub stores : AreCaused StoreFailed answers (λ _. Rose (k.failures old) (k.failures new))

-- Uploads were taken up, stored together, and answered.
pub record HasAnsweredAll {K : Type 0} (k : keepers.Ghosts K) (limits : Limits) (known : List (Option (List ℕ))) (old new : K) (answers : List Answer) : Type 0 where
  pub was_sound : k.sound new → k.sound old
  pub was_clean : k.clean new → k.clean old
  pub stays_made : k.made old → k.made new
  -- nothing waits to be stored behind it
  pub settled : k.settled old → k.settled new
  pub holds : k.clean new → k.made old → HoldsCollected limits known (held (k.journal old) (k.sound old) (k.may_leave old))
      (held (k.journal new) (k.sound new) (k.may_leave new)) answers
  pub recovers : k.clean new → k.made old → k.leaves_journals old → k.leaves_journals new
  pub owner : AreCaused NotTheOwner answers (λ _. k.has_owners)
  pub stores : AreCaused StoreFailed answers (λ _. Rose (k.failures old) (k.failures new))

-- What uploads were acknowledged of was stored, or it couldn't be. So they are given these answers.
pub record HasSettled {K : Type 0} (k : keepers.Ghosts K) (old new : K) (answers given : List Answer) : Type 0 where
  pub stopped : Option KeepStop
  pub given_is : given ≡ answered stopped answers
  -- an upload is refused for a conflict only with what is stored
  pub conflicts : AreCaused Conflict given (λ _. stopped ≡ None)
  -- while the device is sound, it has stored them, and they are answered as they were taken up
  pub stored : k.sound new → stopped ≡ None
  pub was_sound : k.sound new → k.sound old
  pub stays_made : k.made old → k.made new
  pub same : k.made old → k.sound new → k.journal new ≡ k.journal old
  -- where nothing is acknowledged, nothing is done
  pub unless : NoneAcknowledged answers → new ≡ old
  pub brought : Brings k old new
  -- no sequence comes to belong to a machine
  pub unclaimed : k.sound new → k.made old → StayWhose (k.whose new) (k.whose old)
  -- whichever uploads they were given to, since whatever moment of the keeper
  pub all : (limits : Limits) (known : List (Option (List ℕ))) (first : K) → HasCollectedAll k limits known first old answers
      → HasAnsweredAll k limits known first new given
