-- What is reported of a store that is one of several devices.
use Rattle.std.proofs.Common.{◌≡◌, ◌⊎◌, ℕ, ◌+◌, ◌<◌, ◌≤◌, Result, arith, ⊎_elim}
use Rattle.std.proofs.lemmas.Bool.{cases_lt}
use Rattle.jc_base.specs.Device.{Rose, most_failures}
use Rattle.jc_keeper.specs.declared.keeper.KeepStop.{KeepStop}
use Rattle.jc_keeper.specs.Keeping.{StoreHasCause}

-- Other devices have failed this often besides, and before the call not more often.
rose_beside : (before now other first last : ℕ) → first ≤ before + other → last ≡ now + other → Rose before now → Rose first last
rose_beside before now other first last begins ends rose = record {
  never_falls = omega (arith, begins, ends, rose.never_falls);
  rises = λ below. by_place (cases_lt before most_failures) below;
}
  where
    risen : before < now → first < last
    risen rises = omega (arith, begins, ends, rises)

    by_place : (before < most_failures) ⊎ (most_failures ≤ before) → first < most_failures → first < last
    by_place place below = ⊎_elim (λ small. risen (rose.rises small)) (λ most. omega (arith, most, below, ends, rose.never_falls)) place

pub cause_beside : {T : Type 0} {before now first last : ℕ} {result : Result T KeepStop} → StoreHasCause before now result → (other : ℕ) → first ≤ before + other
    → last ≡ now + other → StoreHasCause first last result
cause_beside {before = before} {now = now} {first = first} {last = last} store other begins ends = record {
  never_falls = omega (arith, begins, ends, store.never_falls);
  failed = λ is. rose_beside before now other first last begins ends (store.failed is);
}
