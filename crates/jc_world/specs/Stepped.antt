-- What a call of `step` does. (own)
use Rattle.std.specs.Prelude.{ℕ, ◌≡◌, ◌≤◌, Bool, true, false, List, [], ◌∷◌, ◌++◌, Result, Ok, Err}
use Rattle.std.specs.List.{All}
use Rattle.jc_base.specs.declared.fault.Code.TheVariants.{ReadFailed, StoreFailed}
use Rattle.jc_base.specs.Device.{Rose}
use Rattle.jc_base.specs.Journal.{Journal}
use Rattle.jc_base.specs.declared.limits.Limits.{Limits}
use Rattle.jc_upload.specs.declared.answer.Answer.{Answer}
use Rattle.jc_collect.specs.Position.{HasCode}
use Rattle.jc_world.specs.Event.{Answers}
use Rattle.jc_world.specs.State.{State}

-- What may happen can't: it names nothing, or breaks its condition.
abbrev pub Never : (Does : State → Type 0) → Type 0
Never Does = (u : State) → ¬ Does u

-- True: it happened. False: it can't, and nothing changed. Without an answer nothing changed.
abbrev pub Steps : {E : Type 0} → (Does : State → Type 0) → (before : State) → Result Bool E → (after : State) → Type 0
Steps Does s (Ok true) t = Does t
Steps Does s (Ok false) t = Never Does × (t ≡ s)
Steps Does s (Err refused) t = t ≡ s

-- A delivery was answered, and its answer stands after the others.
pub record IsAnswered (limits : Limits) (delivery : List ℕ) (before : Journal) (given now : List Answer) (after : Journal) : Type 0 where
  pub answer : Answer
  pub answers : Answers limits delivery before answer after
  pub last : now ≡ given ++ answer ∷ []

-- Answers were added. None reports that reading failed: what is delivered is in memory. One reports that the store failed
-- only if the store's count of failures has risen.
pub record AddsAnswers (given now : List Answer) (before after : ℕ) : Type 0 where
  pub added : List Answer
  pub last : now ≡ given ++ added
  pub never_falls : before ≤ after
  pub read : All (λ answer. ¬ HasCode answer ReadFailed) added
  pub store : All (λ answer. HasCode answer StoreFailed → Rose before after) added
