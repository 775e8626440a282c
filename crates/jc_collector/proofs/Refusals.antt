-- Why there is no journal in a database.
use Rattle.std.proofs.Common.{◌≡◌, ◌⊎◌, ℕ, refl, subst, sym, inl, inr}
use Rattle.jc_base.specs.declared.fault.Code.{Code}
use Rattle.jc_base.specs.declared.fault.Code.TheVariants.{BadRow, NotAJournal, OldSchema, OutOfMemory, StoreFailed}
use Rattle.jc_command_shared.specs.declared.failure.Failure.{Failure}
use Rattle.jc_collector.specs.Database.{WhyNoTables}
use Rattle.jc_collector.specs.Failures.{adopt_failure}

-- by the codes of a layout, which are 64 and 67
pub why_refused : (Refuses : Code → Type 0) → ((code : Code) → Refuses code → (code ≡ NotAJournal) ⊎ (code ≡ OldSchema))
    → (code : Code) (row : ℕ) → (code ≡ BadRow) ⊎ ((row ≡ 0) × (Refuses code ⊎ (code ≡ StoreFailed) ⊎ (code ≡ OutOfMemory)))
    → (failure : Failure) → failure ≡ adopt_failure code row → WhyNoTables failure
why_refused Refuses known code row why failure is = subst WhyNoTables (sym is) (elim why [
  | inl bad ↦ subst (λ c. WhyNoTables (adopt_failure c row)) (sym bad) (inl refl)
  | inr other ↦ elim other.1 [
    | inl none ↦ elim (known code none) [
      | inl never ↦ subst (λ c. WhyNoTables (adopt_failure c row)) (sym never) (inr (inl refl, other.0))
      | inr old ↦ subst (λ c. WhyNoTables (adopt_failure c row)) (sym old) (inr (inr refl, other.0))
    ]
    | inr more ↦ elim more [
      | inl store ↦ subst (λ c. WhyNoTables (adopt_failure c row)) (sym store) tt
      | inr memory ↦ subst (λ c. WhyNoTables (adopt_failure c row)) (sym memory) tt
    ]
  ]
])
