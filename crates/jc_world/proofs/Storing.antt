-- What is stored after events that were taken in order.
use Rattle.std.proofs.Common.{◌≡◌, ◌⊎◌, ℕ, List, [], ◌∷◌, ◌++◌, Some, length, map, take, refl, sym, ap, subst, ◌∙◌, inl, inr, ⊎_elim, append_assoc, append-nil}
use Rattle.std.specs.Option.{option_map}
use Rattle.jc_base.specs.Journal.{Journal}
use Rattle.jc_base.specs.declared.limits.Limits.{Limits}
use Rattle.jc_upload.specs.declared.answer.Answer.{Answer}
use Rattle.jc_collect.specs.Chain.{AreTaken, IsChain, Turn, journal_before}
use Rattle.jc_collect.specs.Position.{IsPosition}
use Rattle.jc_world.specs.Event.{Collects, Hands, Happens, MovesOn, moved_on}
use Rattle.jc_world.specs.Schedule.{Brings, BringsEach, BringsNothing, Grows, StoresAccepted, Takes, TakesEach, delivery_of}
use Rattle.jc_world.specs.Stepped.{Never}
use Rattle.jc_world.specs.State.{State, with_machine}
use Rattle.jc_world.specs.declared.event.Event.{Event}
use Rattle.jc_world.specs.declared.event.Event.TheVariants.{Append, Make, Make2, MakeFile, Deliver, Alien, Hand, Restart}
use Rattle.jc_world.proofs.Running.{happens_grows}

-- ---- one event

abbrev pub Reaches : Limits → (before : State) → Event → (after : State) → Type 0
Reaches limits s event t = BringsNothing s t ⊎ ((turn : Turn) × Brings s event t turn × IsPosition limits turn.upload s.journal turn.answer turn.after)

same_state : (s t : State) → t ≡ s → BringsNothing s t
same_state s t is = record { answers = ap (λ (u : State). u.answers) is; journal = ap (λ (u : State). u.journal) is }

collected : (limits : Limits) (s t : State) (event : Event) (bytes : List ℕ) → delivery_of s event ≡ Some bytes → Collects limits s bytes t → Reaches limits s event t
collected limits s t event bytes is c =
    let turn : Turn = record { upload = bytes; answer = c.answer; after = c.journal } in
    inr (
      turn,
      record { delivered = is; answers = ap (λ (u : State). u.answers) c.after; journal = ap (λ (u : State). u.journal) c.after },
      c.answers.position,
    )

handed : (s t : State) (j : ℕ) → Hands s j t → BringsNothing s t
handed s t j h = ⊎_elim
    (λ (moved : MovesOn h.machine h.answer × (t ≡ with_machine s h.m (moved_on h.machine h.answer))).
    record { answers = ap (λ (u : State). u.answers) moved.1; journal = ap (λ (u : State). u.journal) moved.1 })
    (λ (stays : (¬ MovesOn h.machine h.answer) × (t ≡ s)). same_state s t stays.1)
    h.after

reaches : (limits : Limits) (s t : State) (event : Event) → Happens limits s event t → Reaches limits s event t
reaches limits s t (Append m entry) h = inl (record { answers = ap (λ (u : State). u.answers) h.after; journal = ap (λ (u : State). u.journal) h.after })
reaches limits s t (Make m limit) h = inl (record { answers = ap (λ (u : State). u.answers) h.after; journal = ap (λ (u : State). u.journal) h.after })
reaches limits s t (Make2 m limit whole) h = inl (record { answers = ap (λ (u : State). u.answers) h.after; journal = ap (λ (u : State). u.journal) h.after })
reaches limits s t (MakeFile m file) h = inl (record { answers = ap (λ (u : State). u.answers) h.after; journal = ap (λ (u : State). u.journal) h.after })
reaches limits s t (Deliver i cut) h = collected limits s t (Deliver i cut) (take cut h.upload) (ap (option_map (take cut)) h.at) h.collects
reaches limits s t (Alien bytes) h = collected limits s t (Alien bytes) bytes.items refl h.collects
reaches limits s t (Hand j) h = inl (handed s t j h)
reaches limits s t (Restart m k) h = inl (record { answers = ap (λ (u : State). u.answers) h.after; journal = ap (λ (u : State). u.journal) h.after })

taken_reaches : (limits : Limits) (s t : State) (event : Event) → Takes limits s event t → Reaches limits s event t
taken_reaches limits s t event h = ⊎_elim
    (λ (does : Happens limits s event t). reaches limits s t event does)
    (λ (stays : Never (Happens limits s event) × (t ≡ s)). inl (same_state s t stays.1))
    h

-- ---- all of them

-- the deliveries among events, and what is stored after them
record Brought (limits : Limits) (s : State) (events : List Event) (t : State) : Type 0 where
  turns : List Turn
  each : BringsEach limits s events turns t
  chain : IsChain limits s.journal turns
  answers : t.answers ≡ s.answers ++ map (λ turn. turn.answer) turns
  now : t.journal ≡ journal_before s.journal turns (length turns)

after_nothing : (limits : Limits) (s u t : State) (event : Event) (events : List Event) → Takes limits s event u → BringsNothing s u → Brought limits u events t
    → Brought limits s (event ∷ events) t
after_nothing limits s u t event events takes quiet b = record {
  turns = b.turns;
  each = (u, takes, inl (quiet, b.each));
  chain = subst (λ (j : Journal). IsChain limits j b.turns) quiet.journal b.chain;
  answers = b.answers ∙ ap (λ (given : List Answer). given ++ map (λ turn. turn.answer) b.turns) quiet.answers;
  now = b.now ∙ ap (λ (j : Journal). journal_before j b.turns (length b.turns)) quiet.journal;
}

after_turn : (limits : Limits) (s u t : State) (event : Event) (events : List Event) (turn : Turn) → Takes limits s event u → Brings s event u turn
    → IsPosition limits turn.upload s.journal turn.answer turn.after → Brought limits u events t → Brought limits s (event ∷ events) t
after_turn limits s u t event events turn takes brings position b = record {
  turns = turn ∷ b.turns;
  each = (u, takes, inr (turn, b.turns, refl, brings, b.each));
  chain = (position, subst (λ (j : Journal). IsChain limits j b.turns) brings.journal b.chain);
  answers = b.answers ∙ ap (λ (given : List Answer). given ++ map (λ turn. turn.answer) b.turns) brings.answers
      ∙ append_assoc s.answers (turn.answer ∷ []) (map (λ turn. turn.answer) b.turns);
  now = b.now ∙ ap (λ (j : Journal). journal_before j b.turns (length b.turns)) brings.journal;
}

brought : (limits : Limits) (s t : State) (events : List Event) → TakesEach limits s events t → Brought limits s events t
brought limits s t [] is = record {
  turns = [];
  each = (refl, is);
  chain = tt;
  answers = ap (λ (u : State). u.answers) is ∙ sym (append-nil s.answers);
  now = ap (λ (u : State). u.journal) is;
}
brought limits s t (event ∷ events) h =
    let rest : Brought limits h.0 events t = brought limits h.0 t events h.2 in
    ⊎_elim
    (λ (quiet : BringsNothing s h.0). after_nothing limits s h.0 t event events h.1 quiet rest)
    (λ (turned : (turn : Turn) × Brings s event h.0 turn × IsPosition limits turn.upload s.journal turn.answer turn.after).
    after_turn limits s h.0 t event events turned.0 h.1 turned.1 turned.2 rest)
    (taken_reaches limits s h.0 event h.1)

pub stores : ((limits : Limits) (start : Journal) (turns : List Turn) → IsChain limits start turns → AreTaken limits start turns)
    → (limits : Limits) (s t : State) (events : List Event) → TakesEach limits s events t → StoresAccepted limits s events t
stores chains limits s t events h =
    let b : Brought limits s events t = brought limits s t events h in
    record {
      turns = b.turns;
      each = b.each;
      taken = chains limits s.journal b.turns b.chain;
      answers = b.answers;
      now = b.now;
    }

-- what every event keeps is kept by all of them
taken_keeps : (limits : Limits) (P : State → Type 0) (s t : State) (event : Event) → (Happens limits s event t → P t) → P s → Takes limits s event t → P t
taken_keeps limits P s t event keeps was h = ⊎_elim
    (λ (does : Happens limits s event t). keeps does)
    (λ (stays : Never (Happens limits s event) × (t ≡ s)). subst P (sym stays.1) was)
    h

pub each_keeps : (limits : Limits) (P : State → Type 0) → ((s t : State) (event : Event) → P s → Happens limits s event t → P t)
    → (s t : State) (events : List Event) → TakesEach limits s events t → P s → P t
each_keeps limits P keeps s t [] is was = subst P (sym is) was
each_keeps limits P keeps s t (event ∷ events) h was =
    each_keeps limits P keeps h.0 t events h.2
    (taken_keeps limits P s h.0 event (λ (does : Happens limits s event h.0). keeps s h.0 event was does) was h.1)

pub each_grows : (limits : Limits) (s t : State) (events : List Event) → TakesEach limits s events t → Grows s t
each_grows limits s t events h =
    each_keeps limits (Grows s) (λ u v event was does e stored. happens_grows limits u v event does e (was e stored)) s t events h (λ e stored. stored)

pub point_of : (limits : Limits) (s t : State) (events more : List Event) → TakesEach limits s (events ++ more) t
    → (u : State) × TakesEach limits s events u × TakesEach limits u more t
point_of limits s t [] more h = (s, refl, h)
point_of limits s t (event ∷ events) more h =
    let rest : (u : State) × TakesEach limits h.0 events u × TakesEach limits u more t = point_of limits h.0 t events more h.2 in
    (rest.0, (h.0, h.1, rest.1), rest.2)
