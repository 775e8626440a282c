-- Machines and a collector over a database in memory, with no premise left. (own)
use Rattle.std.specs.Prelude.{◌≡◌, ◌<◌, ◌≤◌, List, None, length, take, IsSome}
use Rattle.std.specs.FinMap as finite
use Rattle.jc_base.specs.declared.id.Id128.{Id128}
use Rattle.jc_base.specs.declared.limits.Limits.{Limits}
use Rattle.jc_world.specs.declared.event.Event.{Event}
use Rattle.jc_world.specs.declared.world.Progress.{Progress}
use Rattle.jc_world.specs.Kept.{IsKept}
use Rattle.jc_world.specs.Schedule.{StoresAccepted, TakesEach}
use Rattle.jc_world.specs.State.{State, new_state}

-- A world with machines for these sources, over a journal that was empty, has taken the first ones of these events, and
-- all of them unless memory was refused.
pub record IsWorldInMemory (limits : Limits) (sources : List Id128) (events : List Event) (progress : Progress) (after : State) : Type 0 where
  pub each : TakesEach limits (new_state sources finite.empty) (take progress.taken events) after
  pub stored : StoresAccepted limits (new_state sources finite.empty) (take progress.taken events) after
  pub kept : IsKept limits after
  pub within : progress.taken ≤ length events
  pub all : progress.refusal ≡ None → progress.taken ≡ length events
  pub refused : IsSome progress.refusal → progress.taken < length events
