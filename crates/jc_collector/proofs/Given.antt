-- A source over what a database lists gives its entries.
use Rattle.std.proofs.Common.{◌≡◌, ◌≢◌, ◌∙◌, ◌+◌, ℕ, List, ◌∷◌, Option, Some, None, Result, Ok, Err, ap, refl, subst, sym, inl, inr, arith}
use Rattle.std.specs.Prelude.{IsErrAnd, MatchResult, length}
use Rattle.std.specs.List.{Contains}
use Rattle.std.proofs.lemmas.List.Elements.{Contains-append_left, Contains-append_right}
use Rattle.jc_base.specs.declared.fault.Code.{Code}
use Rattle.jc_base.specs.declared.fault.Code.TheVariants.{Conflict}
use Rattle.jc_base.specs.declared.fault.Ending.{Ending}
use Rattle.jc_base.specs.declared.fault.Ending.TheVariants.{Bad, End}
use Rattle.jc_base.specs.declared.fault.Fault.{Fault}
use Rattle.jc_base.specs.declared.limits.Limits.{Limits}
use Rattle.jc_base.specs.LimitBounds.{AreDefaults}
use Rattle.jc_base.specs.Journal.{Journal}
use Rattle.jc_base.specs.LogEntry.{LogEntry}
use Rattle.jc_base.specs.Reading.{Reading}
use Rattle.jc_export.specs.Cut.{ReadsBack}
use Rattle.jc_keeper.specs.declared.keeper.KeepStop.{KeepStop}
use Rattle.jc_keeper.specs.Listing.{entries_of}
use Rattle.jc_ledger.specs.Lagging.{EndsIn, GivesAll, IsCaughtUp}
use Rattle.jc_ledger.specs.declared.catching_up.CaughtUp.{CaughtUp}
use Rattle.jc_ledger.specs.declared.catching_up.CaughtUp.TheVariants as caught
use Rattle.jc_stream.specs.Streaming.{ReadsKnown}
use Rattle.jc_export.specs.Stream.{EndsAs, IsFaulty, IsStuck, StreamReading}
use Rattle.jc_collector.specs.UnionOpened.{HasOneOver, IsOfOneOver, IsTold, MayStop}
use Rattle.jc_collector.specs.declared.into_union.opening.OpenStop.{OpenStop}
use Rattle.jc_collector.specs.declared.into_union.opening.OpenStop.TheVariants.{Stopped}
use Rattle.jc_collector.proofs.Listed.{listed_stored, stored_listed}

read_gives : (limits : Limits) (given : Option Reading) (r : Reading) (m : Journal) → given ≡ Some r → ReadsBack limits (entries_of m) r → GivesAll given m
read_gives limits given r m is (inl back) = record {
  reading = r;
  is = is;
  stored = λ e inside. listed_stored m e (subst (λ (r : Reading). Contains r.entries e) back.1 inside);
  each = λ well e stored. subst (λ (r : Reading). Contains r.entries e) (sym back.1) (stored_listed m e stored);
}
read_gives limits given r m is (inr stops) = record {
  reading = r;
  is = is;
  stored = λ e inside. listed_stored m e (subst (λ (es : List LogEntry). Contains es e) (sym stops.whole) (Contains-append_left r.entries (stops.first ∷ stops.more) e inside));
  each = λ well e stored. let clash : Bad stops.fault ≡ End well.left = sym stops.ends ∙ well.ends in absurd (let none : ⊥ = cc in none);
}

pub gives_all : (limits : Limits) (device : Option (List ℕ)) (given : Option Reading) (text : List ℕ) (m : Journal)
    → ((r : Reading) → StreamReading limits 0 text r → ReadsBack limits (entries_of m) r) → device ≡ Some text → ReadsKnown limits device given → GivesAll given m
gives_all limits device given text m back is known = known_gives given (subst (λ (d : Option (List ℕ)). ReadsKnown limits d given) is known)
  where
    known_gives : (given : Option Reading) → ReadsKnown limits (Some text) given → GivesAll given m
    known_gives None known = absurd known
    known_gives (Some r) known = read_gives limits (Some r) r m refl (back r known)

-- ---- a fault is that of an entry over the limits

one_over : (limits : Limits) → AreDefaults limits.name limits.value limits.fields limits.entry limits.file → (given : Option Reading) (r : Reading) (m : Journal) (fault : Fault)
    → given ≡ Some r → ReadsBack limits (entries_of m) r → EndsIn given fault → HasOneOver m
one_over limits defaults given r m fault is (inl back) ends =
    let clash : End 0 ≡ Bad fault = sym (ap (λ (r : Reading). r.ending) back.1) ∙ ends r is in absurd (let none : ⊥ = cc in none)
one_over limits defaults given r m fault is (inr stops) ends = record {
  limits = limits;
  defaults = defaults;
  entry = stops.first;
  stored = listed_stored m stops.first (subst (λ (es : List LogEntry). Contains es stops.first) (sym stops.whole)
      (Contains-append_right r.entries (stops.first ∷ stops.more) stops.first (0, omega arith, refl)));
  beyond = stops.beyond;
}

-- no stream has the fault that an entry differs from another one
no_conflict : (limits : Limits) (text : List ℕ) (r : Reading) (fault : Fault) → StreamReading limits 0 text r → r.ending ≡ Bad fault → fault.code ≢ Conflict
no_conflict limits text r fault read ends same =
    let shows : EndsAs limits (0 + length read.front) read.rest (Bad fault) = subst (λ (e : Ending). EndsAs limits (0 + length read.front) read.rest e) ends read.ends in
    elim shows [
      | inl stuck ↦ (subst (λ (code : Code). IsStuck limits read.rest code stuck.0) same stuck.1).shows
      | inr faulty ↦ (subst (λ (code : Code). IsFaulty limits read.rest code) same faulty.0).fault.has
    ]

pub over_all : (limits : Limits) → AreDefaults limits.name limits.value limits.fields limits.entry limits.file → (device : Option (List ℕ)) (given : Option Reading)
    (text : List ℕ) (m : Journal)
    → ((r : Reading) → StreamReading limits 0 text r → ReadsBack limits (entries_of m) r) → device ≡ Some text → ReadsKnown limits device given
    → (fault : Fault) → EndsIn given fault → IsOfOneOver m fault
over_all limits defaults device given text m back is known fault ends =
    known_over given (subst (λ (d : Option (List ℕ)). ReadsKnown limits d given) is known) ends
  where
    known_over : (given : Option Reading) → ReadsKnown limits (Some text) given → EndsIn given fault → IsOfOneOver m fault
    known_over None known ends = absurd known
    known_over (Some r) known ends = record {
      one = one_over limits defaults (Some r) r m fault refl (back r known) ends;
      other = no_conflict limits text r fault known (ends r refl);
    }

-- ---- what is told of it

pub told_kept : {T : Type 0} (Holds : Type 0) (given : Option Reading) (m : Journal) (is : CaughtUp) (result : Result T OpenStop) → IsTold is result
    → IsCaughtUp Holds given is → ((fault : Fault) → EndsIn given fault → IsOfOneOver m fault) → MatchResult result (λ _. Holds) (MayStop m)
told_kept Holds given m caught.Done (Ok x) told holds over = holds
told_kept Holds given m caught.Done (Err why) told holds over = absurd (let none : ⊥ = cc in none)
told_kept Holds given m (caught.Differs index) result told holds over = absurd holds
told_kept {T = T} Holds given m (caught.Faulty fault) result told ends over =
    subst (λ (r : Result T OpenStop). MatchResult r (λ _. Holds) (MayStop m)) (sym told) (over fault ends)

-- what stopped on its way is no claim on the journal
pub stopped_may : (m : Journal) (why : OpenStop) (stop : KeepStop) → why ≡ Stopped stop → MayStop m why
stopped_may m why stop is = subst (MayStop m) (sym is) tt

pub stopped_ends : {T : Type 0} (m : Journal) (r : Result T OpenStop) (P : T → Type 0) (stop : KeepStop) → IsErrAnd r (λ why. why ≡ Stopped stop)
    → MatchResult r P (MayStop m)
stopped_ends m (Ok x) P stop is = absurd is
stopped_ends m (Err why) P stop is = stopped_may m why stop is

-- what was caught up isn't told as a failure
pub never_stopped : {T : Type 0} (is : CaughtUp) (result : Result T OpenStop) (stop : KeepStop) → IsTold is result → result ≡ Err (Stopped stop) → ⊥
never_stopped caught.Done (Ok x) stop told same = cc
never_stopped caught.Done (Err why) stop told same = cc
never_stopped (caught.Differs index) result stop told same = cc
never_stopped (caught.Faulty fault) result stop told same = cc
