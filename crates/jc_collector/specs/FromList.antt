-- What `collect` prints of the uploads that a list names. (own)
use Rattle.std.specs.Prelude.{ℕ, List, Option}
use Rattle.jc_command_shared.specs.declared.status.Status.{Status}
use Rattle.jc_collector.specs.OverFiles.{IsListed}
use Rattle.jc_collector_answers.specs.Named.{PrintsNamed}

-- The output gained the answers of a list's uploads, line by line, by what standard input gives or is told of the list's file.
pub record PrintsFromList (told : List ℕ → Option (List ℕ)) (list : List ℕ) (given : Option (List ℕ)) (status : Status) (old new : Option (List ℕ)) : Type 0 where
  pub text : Option (List ℕ)
  pub listed : IsListed told list given text
  pub printed : PrintsNamed text status old new
