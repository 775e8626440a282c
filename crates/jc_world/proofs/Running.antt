-- Steps one after the other.
use Rattle.std.proofs.Common.{◌≡◌, ℕ, ◌+◌, ◌<◌, Bool, true, false, List, [], ◌∷◌, ◌++◌, Result, Ok, Err, length, get_or, take, refl, sym, ap, subst, ◌∙◌, inl, inr, ⊎_elim}
use Rattle.std.proofs.lemmas.List.{take_more}
use Rattle.jc_base.specs.Journal.{Journal}
use Rattle.jc_base.specs.declared.limits.Limits.{Limits}
use Rattle.jc_keeper.specs.Agree.{IsStored}
use Rattle.jc_world.specs.Event.{Collects, Hands, Happens, MovesOn, moved_on}
use Rattle.jc_world.specs.Schedule.{Grows, Takes, TakesEach}
use Rattle.jc_world.specs.Stepped.{Steps}
use Rattle.jc_world.specs.State.{State, with_machine}
use Rattle.jc_world.specs.declared.event.Event.{Event}
use Rattle.jc_world.specs.declared.event.Event.TheVariants.{Append, Make, Make2, MakeFile, Deliver, Alien, Hand, Restart}
use Rattle.jc_world.proofs.Keeping.{grown}

-- ---- one step

-- what is kept by an event, and by nothing happening, is kept by a step
pub by_steps : {E : Type 0} (Does P : State → Type 0) (s t : State) (result : Result Bool E) → ((u : State) → Does u → P u) → P s
    → Steps Does s result t → P t
by_steps Does P s t (Ok true) kept was h = kept t h
by_steps Does P s t (Ok false) kept was h = subst P (sym h.1) was
by_steps Does P s t (Err refused) kept was h = subst P (sym h) was

same_grows : (s t : State) → t.journal ≡ s.journal → Grows s t
same_grows s t same e stored = subst (λ (m : Journal). IsStored m e) (sym same) stored

collects_grow : (limits : Limits) (s t : State) (bytes : List ℕ) → Collects limits s bytes t → Grows s t
collects_grow limits s t bytes c e stored =
    subst (λ (m : Journal). IsStored m e) (sym (ap (λ (u : State). u.journal) c.after))
    (grown limits bytes s.journal c.journal c.answer c.answers.position e stored)

hands_same : (s t : State) (j : ℕ) → Hands s j t → t.journal ≡ s.journal
hands_same s t j h = ⊎_elim
    (λ (moved : MovesOn h.machine h.answer × (t ≡ with_machine s h.m (moved_on h.machine h.answer))). ap (λ (u : State). u.journal) moved.1)
    (λ (stays : (¬ MovesOn h.machine h.answer) × (t ≡ s)). ap (λ (u : State). u.journal) stays.1)
    h.after

pub happens_grows : (limits : Limits) (s t : State) (event : Event) → Happens limits s event t → Grows s t
happens_grows limits s t (Append m entry) h = same_grows s t (ap (λ (u : State). u.journal) h.after)
happens_grows limits s t (Make m limit) h = same_grows s t (ap (λ (u : State). u.journal) h.after)
happens_grows limits s t (Make2 m limit whole) h = same_grows s t (ap (λ (u : State). u.journal) h.after)
happens_grows limits s t (MakeFile m file) h = same_grows s t (ap (λ (u : State). u.journal) h.after)
happens_grows limits s t (Deliver i cut) h = collects_grow limits s t (take cut h.upload) h.collects
happens_grows limits s t (Alien bytes) h = collects_grow limits s t bytes.items h.collects
happens_grows limits s t (Hand j) h = same_grows s t (hands_same s t j h)
happens_grows limits s t (Restart m k) h = same_grows s t (ap (λ (u : State). u.journal) h.after)

-- ---- all of them

pub takes_by : (E : Type 0) (limits : Limits) (s t : State) (event : Event) (taken : Bool) → Steps {E = E} (Happens limits s event) s (Ok taken) t → Takes limits s event t
takes_by E limits s t event true h = inl h
takes_by E limits s t event false h = inr h

takes_last : (limits : Limits) (s u t : State) (events : List Event) (event : Event) → TakesEach limits s events u → Takes limits u event t → TakesEach limits s (events ++ event ∷ []) t
takes_last limits s u t [] event h g = (t, subst (λ (x : State). Takes limits x event t) h g, refl)
takes_last limits s u t (e ∷ events) event h g = (h.0, h.1, takes_last limits h.0 u t events event h.2 g)

pub takes_more : (limits : Limits) (s u t : State) (events : List Event) (i : ℕ) (event : Event) → i < length events → event ≡ get_or events i event
    → TakesEach limits s (take i events) u → Takes limits u event t → TakesEach limits s (take (i + 1) events) t
takes_more limits s u t events i event within is h g =
    let more : take (i + 1) events ≡ take i events ++ event ∷ [] =
    take_more events i event within ∙ ap (λ (e : Event). take i events ++ e ∷ []) (sym is) in
    subst (λ (es : List Event). TakesEach limits s es t) (sym more) (takes_last limits s u t (take i events) event h g)
