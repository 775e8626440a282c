-- What a whole run of events does. (own)
use Rattle.std.specs.Prelude.{ℕ, ◌≡◌, ◌⊎◌, List, [], ◌∷◌, ◌++◌, length, map, take, Option, None, Some, slice_get}
use Rattle.std.specs.Option.{option_map}
use Rattle.jc_base.specs.LogEntry.{LogEntry}
use Rattle.jc_base.specs.declared.limits.Limits.{Limits}
use Rattle.jc_keeper.specs.Agree.{IsStored}
use Rattle.jc_collect.specs.Chain.{AreTaken, Turn, journal_before}
use Rattle.jc_world.specs.Event.{Happens}
use Rattle.jc_world.specs.Stepped.{Never}
use Rattle.jc_world.specs.State.{State}
use Rattle.jc_world.specs.declared.event.Event.{Event}
use Rattle.jc_world.specs.declared.event.Event.TheVariants.{Append, Make, Make2, MakeFile, Deliver, Alien, Hand, Restart}

-- One event is taken: it happens, or it can't, and nothing changes.
abbrev pub Takes : Limits → (before : State) → Event → (after : State) → Type 0
Takes limits s event t = Happens limits s event t ⊎ (Never (Happens limits s event) × (t ≡ s))

-- Events are taken in order.
abbrev pub TakesEach : Limits → (before : State) → List Event → (after : State) → Type 0
TakesEach limits s [] t = t ≡ s
TakesEach limits s (event ∷ events) t = (u : State) × Takes limits s event u × TakesEach limits u events t

-- What is stored before is stored after.
abbrev pub Grows : (before after : State) → Type 0
Grows s t = (e : LogEntry) → IsStored s.journal e → IsStored t.journal e

-- ---- what reached the collector

-- the bytes that an event brings to the collector, if it happens and brings any
abbrev pub delivery_of : State → Event → Option (List ℕ)
delivery_of s (Append m entry) = None
delivery_of s (Make m limit) = None
delivery_of s (Make2 m limit whole) = None
delivery_of s (MakeFile m file) = None
delivery_of s (Deliver i cut) = option_map (take cut) (slice_get s.uploads i)
delivery_of s (Alien bytes) = Some bytes.items
delivery_of s (Hand j) = None
delivery_of s (Restart m k) = None

-- An event brings a delivery to the collector, which answers it.
pub record Brings (s : State) (event : Event) (t : State) (turn : Turn) : Type 0 where
  pub delivered : delivery_of s event ≡ Some turn.upload
  pub answers : t.answers ≡ s.answers ++ turn.answer ∷ []
  pub journal : t.journal ≡ turn.after

-- Nothing reaches the collector.
pub record BringsNothing (s t : State) : Type 0 where
  pub answers : t.answers ≡ s.answers
  pub journal : t.journal ≡ s.journal

-- Events are taken in order, and these are the deliveries among them.
abbrev pub BringsEach : Limits → (before : State) → List Event → List Turn → (after : State) → Type 0
BringsEach limits s [] turns t = (turns ≡ []) × (t ≡ s)
BringsEach limits s (event ∷ events) turns t =
    (u : State) × Takes limits s event u
    × ((BringsNothing s u × BringsEach limits u events turns t)
    ⊎ ((turn : Turn) × (rest : List Turn) × (turns ≡ turn ∷ rest) × Brings s event u turn × BringsEach limits u events rest t))

-- After these events there is stored what was at the start, and what the accepted ones of their deliveries say, and
-- nothing else. What is stored before any delivery stays.
pub record StoresAccepted (limits : Limits) (s : State) (events : List Event) (t : State) : Type 0 where
  pub turns : List Turn
  pub each : BringsEach limits s events turns t
  pub taken : AreTaken limits s.journal turns
  pub answers : t.answers ≡ s.answers ++ map (λ turn. turn.answer) turns
  pub now : t.journal ≡ journal_before s.journal turns (length turns)
