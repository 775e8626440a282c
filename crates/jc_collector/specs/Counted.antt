-- What is printed of as many uploads as there are. (own)
use Rattle.std.specs.Prelude.{ℕ, List, Option}
use Rattle.jc_base.specs.Journal.{Journal}
use Rattle.jc_collector_answers.specs.Collected.{StoresFirstOf}
use Rattle.jc_collector_answers.specs.Tied.{PrintsWith}
use Rattle.jc_command_shared.specs.declared.status.Status.{Status}
use Rattle.jc_upload.specs.declared.answer.Answer.{Answer}

-- The lines of as many answers were printed as there are uploads, the status is theirs, and this holds of them.
pub record PrintsCounted (Counts : ℕ → Type 0) (Holds : List Answer → Type 0) (status : Status) (old new : Option (List ℕ)) : Type 0 where
  pub count : ℕ
  pub counts : Counts count
  pub answers : PrintsWith Holds count status old new

-- ... and they are the answers to these uploads, of which each acknowledged one is stored.
abbrev pub StoresCounted : (Counts : ℕ → Type 0) → (AreUploads : List (Option (List ℕ)) → Type 0) → Status → (old new : Option (List ℕ))
    → (before after : Journal) → Type 0
StoresCounted Counts AreUploads status old new before after = PrintsCounted Counts (λ answers. StoresFirstOf AreUploads before answers after) status old new
