-- What holds of the answers that were printed. (own)
use Rattle.std.specs.Prelude.{ℕ, ◌≡◌, ◌≤◌, List, [], ◌∷◌, ◌++◌, Option, length, take}
use Rattle.std.specs.Io.KnownBytes.{Appends}
use Rattle.jc_collect.specs.Run.{lines_of_answers}
use Rattle.jc_upload.specs.declared.answer.Answer.{Answer}
use Rattle.jc_command_shared.specs.declared.status.Status.{Status}
use Rattle.jc_collector_answers.specs.Answered.{PrintsAnswers}
use Rattle.jc_collector_answers.specs.Named.{PrintsNamed}

-- The lines of this many answers were printed, the status is theirs, and this holds of them.
pub record PrintsWith (Holds : List Answer → Type 0) (count : ℕ) (status : Status) (old new : Option (List ℕ)) : Type 0 where
  pub shown : PrintsAnswers count status old new
  pub holds : Holds shown.answers

-- how many answers are printed together, at most
abbrev pub most_together : ℕ
most_together = 64

-- The lines of some answers were printed whole, and a front of the lines of some more, of one group at most, and this holds of
-- all of them.
pub record PrintsFront (Holds : List Answer → Type 0) (old new : Option (List ℕ)) : Type 0 where
  pub answers : List Answer
  pub more : List Answer
  pub few : length more ≤ most_together
  pub bytes : ℕ
  pub printed : Appends old new (lines_of_answers answers ++ take bytes (lines_of_answers more))
  pub holds : Holds (answers ++ more)

-- The line of an answer was printed for each line of a text, the status is theirs, and this holds of them.
pub record NamedWith (Holds : List Answer → Type 0) (text : Option (List ℕ)) (status : Status) (old new : Option (List ℕ)) : Type 0 where
  pub shown : PrintsNamed text status old new
  pub holds : Holds shown.printed.answers

-- There is this answer alone.
abbrev pub IsAlone : Answer → List Answer → Type 0
IsAlone answer answers = answers ≡ answer ∷ []
