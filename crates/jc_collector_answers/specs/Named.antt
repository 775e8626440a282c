-- What is printed of the uploads that the lines of a text name. (own)
use Rattle.std.specs.Prelude.{◌≡◌, ◌≢◌, ℕ, suc, List, ◌∷◌, ◌++◌, Option, Some, None, IfSome, length, ⊤}
use Rattle.std.specs.List.{All}
use Rattle.jc_command_shared.specs.Lines.{lines_of}
use Rattle.jc_command_shared.specs.declared.status.Status.{Status}
use Rattle.jc_collector_answers.specs.Answered.{PrintsAnswers}
use Rattle.jc_collector_answers.specs.declared.name_lines.NameLines.{NameLines}
use Rattle.jc_collector_answers.specs.declared.name_lines.NameLines.TheVariants.{Uploads, MachinesAndUploads}

-- The output gained the line of an answer for each line of a text, if the text is known, and the status is theirs.
pub record PrintsNamed (text : Option (List ℕ)) (status : Status) (old new : Option (List ℕ)) : Type 0 where
  pub count : ℕ
  pub each : IfSome text (λ known. count ≡ length (lines_of known))
  pub printed : PrintsAnswers count status old new

-- A known text has lost its first line.
abbrev pub LosesLine : (old new : Option (List ℕ)) → Type 0
LosesLine None new = ⊤
LosesLine (Some text) None = ⊥
LosesLine (Some text) (Some rest) = length (lines_of text) ≡ suc (length (lines_of rest))

abbrev pub HasNoTab : List ℕ → Type 0
HasNoTab bytes = All (λ b. b ≢ 9) bytes

-- The machine that a line names, and the upload: what stands before its first tab, and what stands behind that. A line
-- without a tab, and any line of a list of uploads alone, names an upload and no machine.
abbrev pub HasParts : NameLines → (line : List ℕ) → (machine : Option (List ℕ)) → (upload : List ℕ) → Type 0
HasParts Uploads line None upload = upload ≡ line
HasParts Uploads line (Some machine) upload = ⊥
HasParts MachinesAndUploads line None upload = (upload ≡ line) × HasNoTab line
HasParts MachinesAndUploads line (Some machine) upload = (line ≡ machine ++ 9 ∷ upload) × HasNoTab machine
