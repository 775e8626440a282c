-- Journals of databases that ever were.
use Rattle.std.proofs.Common.{◌≡◌, ◌⊎◌, ◌||◌, Bool, true, false, List, [], ◌∷◌, Option, Some, None, refl, inl, inr, ⊎_elim}
use Rattle.std.specs.List.{AllByRecursion}
use Rattle.std.specs.FinMap.{get}
use Rattle.jc_base.specs.declared.id.Key.{Key}
use Rattle.jc_base.specs.Journal.{Journal}
use Rattle.jc_base.specs.LogEntry.{LogEntry, Body}
use Rattle.jc_keeper.specs.Agree.{IsStored}
use Rattle.jc_keeper.specs.Listing.{entry_under}
use Rattle.jc_ledger.specs.Kept.{AreApart}
use Rattle.jc_runs.specs.Stands.{AreApartBut, HaveNot, IsPastBut}

pub or_true : (a b : Bool) → b ≡ true → (a || b) ≡ true
or_true true b is = refl
or_true false b is = is

pub true_or : (a b : Bool) → a ≡ true → (a || b) ≡ true
true_or true b is = refl
true_or false b is = absurd cc

pub not_or : (a b : Bool) → (a || b) ≡ false → a ≡ false
not_or true b is = absurd cc
not_or false b is = refl

-- the keys that a statement leaves out may become more
pub apart_but_more : (but more : Key → Bool) → ((k : Key) → more k ≡ false → but k ≡ false) → (ms : List Journal) → AreApartBut but ms → AreApartBut more ms
apart_but_more but more fewer [] apart = tt
apart_but_more but more fewer (m ∷ ms) apart = (λ k is. apart.0 k (fewer k is), apart_but_more but more fewer ms apart.1)

-- so may those of the past journal, and the journal itself
pub past_but_more : (but more : Key → Bool) (past later : Journal)
    → ((e : LogEntry) → IsStored past e ⊎ (but e.key ≡ true) → IsStored later e ⊎ (more e.key ≡ true))
    → (ms : List Journal) → AllByRecursion (IsPastBut but past) ms → AllByRecursion (IsPastBut more later) ms
past_but_more but more past later leads [] noted = tt
past_but_more but more past later leads (m ∷ ms) noted = (λ e stored. leads e (noted.0 e stored), past_but_more but more past later leads ms noted.1)

-- What the past journal hasn't, and is no such key, none of them has.
have_not : (but : Key → Bool) (past : Journal) (k : Key) → but k ≡ false → get past k ≡ None
    → (ms : List Journal) → AllByRecursion (IsPastBut but past) ms → HaveNot ms k
have_not but past k other none [] noted = tt
have_not but past k other none (m ∷ ms) noted = (by_test (get m k) refl, have_not but past k other none ms noted.1)
  where
    by_test : (o : Option Body) → get m k ≡ o → get m k ≡ None
    by_test None is = is
    by_test (Some b) is = absurd (⊎_elim
        (λ (stored : IsStored past (entry_under (k, b))). let there : get past k ≡ Some b = stored in let nothing = none in cc)
        (λ (but_k : but k ≡ true). let it = other in cc)
        (noted.0 (entry_under (k, b)) is))

-- the present journal beside them
pub apart_now : (but : Key → Bool) (past now : Journal) → AreApart past now → (ms : List Journal) → AllByRecursion (IsPastBut but past) ms
    → AreApartBut but ms → AreApartBut but (now ∷ ms)
apart_now but past now apart ms noted among = (
  λ k other. ⊎_elim (λ none. inr (have_not but past k other none ms noted)) (λ none. inl none) (apart k),
  among,
)
