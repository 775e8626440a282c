-- Why a command over a database fails, by the failures of what it does.
use Rattle.std.proofs.Common.{◌≡◌, ◌⊎◌, inl, inr, ℕ, List, Option, refl, sym, subst}
use Rattle.std.specs.Prelude.{⊤}
use Rattle.jc_command_shared.specs.Failure.{status_of}
use Rattle.jc_command_shared.specs.declared.failure.Failure.{Failure}
use Rattle.jc_command_shared.specs.declared.failure.Failure.TheVariants.{Bad, BadAnswer, BadDatabaseName, BadExportName, BadFieldName, BadId, BadLine, BadResume, BadUpload, CannotOpen, OutOfMemory, ReadFailed, SourceChanged, StoreFailed, WordsAreNoText, WriteFailed}
use Rattle.jc_command_shared.specs.declared.status.Status.TheVariants.{Failed}
use Rattle.jc_collector.specs.Database.{DatabaseFailsBy, IsOutFailure, MayEndNames, MayStop, ShowFailsBy, WhyNoJournal, WhyNoTables}

pub no_tables : (path : List ℕ) (failure : Failure) → WhyNoTables failure → WhyNoJournal path failure
no_tables path (Bad fault) why = why
no_tables path SourceChanged why = why
no_tables path BadResume why = why
no_tables path (BadAnswer line) why = why
no_tables path (BadLine line) why = why
no_tables path BadId why = why
no_tables path BadFieldName why = why
no_tables path BadDatabaseName why = why
no_tables path BadExportName why = why
no_tables path BadUpload why = why
no_tables path (CannotOpen at) why = absurd why
no_tables path ReadFailed why = why
no_tables path WriteFailed why = why
no_tables path StoreFailed why = why
no_tables path OutOfMemory why = why
no_tables path WordsAreNoText why = why

pub by_database : (path : List ℕ) (failure : Failure) → IsOutFailure failure → DatabaseFailsBy path failure
by_database path failure (inl is) = subst (DatabaseFailsBy path) (sym is) tt
by_database path failure (inr (inl is)) = subst (DatabaseFailsBy path) (sym is) tt
by_database path failure (inr (inr is)) = subst (DatabaseFailsBy path) (sym is) tt

pub failed : (failure : Failure) → IsOutFailure failure → status_of failure ≡ Failed
failed failure (inl is) = subst (λ f. status_of f ≡ Failed) (sym is) refl
failed failure (inr (inl is)) = subst (λ f. status_of f ≡ Failed) (sym is) refl
failed failure (inr (inr is)) = subst (λ f. status_of f ≡ Failed) (sym is) refl

pub by_showing : (path : List ℕ) (field digits : Option (List ℕ)) (failure : Failure) → IsOutFailure failure → ShowFailsBy path field digits failure
by_showing path field digits failure (inl is) = subst (ShowFailsBy path field digits) (sym is) tt
by_showing path field digits failure (inr (inl is)) = subst (ShowFailsBy path field digits) (sym is) tt
by_showing path field digits failure (inr (inr is)) = subst (ShowFailsBy path field digits) (sym is) tt

-- why answering uploads stopped, which had to be read to be known or not
module _ (AreRead : Type 0) where
  pub by_stopping : (path : List ℕ) (failure : Failure) → MayStop AreRead failure
      → (AreRead × (failure ≡ ReadFailed)) ⊎ DatabaseFailsBy path failure
  by_stopping path failure (inl is) = inl is
  by_stopping path failure (inr out) = inr (by_database path failure out)

  pub stopped_failed : (failure : Failure) → MayStop AreRead failure → status_of failure ≡ Failed
  stopped_failed failure (inl is) = subst (λ f. status_of f ≡ Failed) (sym is.1) refl
  stopped_failed failure (inr out) = failed failure out

pub not_read : (failure : Failure) → MayStop ⊥ failure → IsOutFailure failure
not_read failure (inl is) = absurd is.0
not_read failure (inr out) = out

pub may_end_names : (failure : Failure) → MayStop ⊤ failure → MayEndNames failure
may_end_names failure (inl is) = inl is.1
may_end_names failure (inr out) = inr out

pub names_failed : (failure : Failure) → MayEndNames failure → status_of failure ≡ Failed
names_failed failure (inl is) = subst (λ f. status_of f ≡ Failed) (sym is) refl
names_failed failure (inr out) = failed failure out
