-- Why collecting uploads fails, by why taking up deliveries does, or the uploads that lines name.
use Rattle.std.proofs.Common.{◌≡◌, ◌⊎◌, inl, inr, ℕ, List, Option}
use Rattle.std.specs.Prelude.{⊤}
use Rattle.jc_command_shared.specs.declared.failure.Failure.{Failure}
use Rattle.jc_command_shared.specs.declared.failure.Failure.TheVariants.{Bad, BadAnswer, BadDatabaseName, BadExportName, BadFieldName, BadId, BadLine, BadResume, BadUpload, CannotOpen, OutOfMemory, ReadFailed, SourceChanged, StoreFailed, WordsAreNoText, WriteFailed}
use Rattle.jc_collector.specs.Database.{CollectFailsBy, DatabaseFailsBy}

module _ (database : List ℕ) where
  pub by_deliveries : (failure : Failure) → (⊥ × (failure ≡ ReadFailed)) ⊎ DatabaseFailsBy database failure → DatabaseFailsBy database failure
  by_deliveries failure (inl read) = absurd read.0
  by_deliveries failure (inr why) = why

  pub by_lines : (failure : Failure) → (⊤ × (failure ≡ ReadFailed)) ⊎ DatabaseFailsBy database failure
      → (failure ≡ ReadFailed) ⊎ DatabaseFailsBy database failure
  by_lines failure (inl read) = inl read.1
  by_lines failure (inr why) = inr why

  pub by_collecting : (uploads : List (List ℕ)) (at : Option (List ℕ)) (failure : Failure) → DatabaseFailsBy database failure → CollectFailsBy database uploads at failure
  by_collecting uploads at (Bad fault) why = why
  by_collecting uploads at SourceChanged why = why
  by_collecting uploads at BadResume why = why
  by_collecting uploads at (BadAnswer line) why = why
  by_collecting uploads at (BadLine line) why = why
  by_collecting uploads at BadId why = why
  by_collecting uploads at BadFieldName why = why
  by_collecting uploads at BadDatabaseName why = why
  by_collecting uploads at BadExportName why = absurd why
  by_collecting uploads at BadUpload why = why
  by_collecting uploads at (CannotOpen path) why = inl why
  by_collecting uploads at ReadFailed why = tt
  by_collecting uploads at WriteFailed why = why
  by_collecting uploads at StoreFailed why = why
  by_collecting uploads at OutOfMemory why = why
  by_collecting uploads at WordsAreNoText why = why
