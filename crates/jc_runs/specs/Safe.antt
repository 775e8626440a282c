-- What a machine may delete. (own)
use Rattle.std.specs.Prelude.{ℕ, ◌⊎◌, true, List, [], ◌∷◌, Option, Some}
use Rattle.std.specs.List.{AllByRecursion, Contains}
use Rattle.jc_base.specs.declared.id.Id128.{Id128}
use Rattle.jc_command_shared.specs.Lines.{lines_of}
use Rattle.jc_command_shared.specs.declared.status.Status.TheVariants.{Success}
use Rattle.jc_sender.specs.Acknowledged.{TellsOfUpload}
use Rattle.jc_upload.specs.Answer.{IsAnswer, answer_text}
use Rattle.jc_upload.specs.declared.answer.Answer.{Answer}
use Rattle.jc_upload.specs.declared.answer.Answer.TheVariants.{Ack}
use Rattle.jc_upload.specs.declared.head.Kind.TheVariants.{Export}
use Rattle.jc_upload.specs.declared.head.UploadHead.{UploadHead}
use Rattle.jc_upload.specs.declared.head.Version.TheVariants.{V2}
use Rattle.jc_upload.specs.Says.{HasHead}
use Rattle.jc_runs.specs.Acknowledged.{AcknowledgeNoOther, HoldsOfAll}
use Rattle.jc_runs.specs.Between.{Between, IsInOne, journals}
use Rattle.jc_runs.specs.Stands.{Keeps}
use Rattle.jc_runs.specs.Steps.{Step, answered_in, answers_of}

-- the header of an upload that is all of a source: an export stream of so many entries, from the first one on
abbrev pub head_of_all : Id128 → (count : ℕ) → UploadHead
head_of_all source count = record { version = V2 true count; kind = Export; source = source; start = 0 }

-- One of these lines acknowledges all of an upload: as many entries of its source as its header says, and nothing is left.
pub record AcknowledgeAll (upload lines : List ℕ) : Type 0 where
  pub source : Id128
  pub count : ℕ
  pub new : ℕ
  pub body : List ℕ
  pub has : HasHead upload (head_of_all source count) body
  pub lawful : IsAnswer (Ack source 0 count new 0)
  pub line : Contains (lines_of lines) (answer_text (Ack source 0 count new 0))

-- One of the runs printed the line of this answer.
abbrev pub IsPrinted : List Step → Answer → Type 0
IsPrinted [] answer = ⊥
IsPrinted (step ∷ steps) answer = Contains (answers_of step) answer ⊎ IsPrinted steps answer

-- Lines acknowledge all of an upload, those of them that are answers' are lines that these runs printed, and none of these
-- acknowledged so another upload.
pub record MayDelete (upload lines : List ℕ) (steps : List Step) : Type 0 where
  pub acknowledge : AcknowledgeAll upload lines
  pub printed : (answer : Answer) → IsAnswer answer → Contains (lines_of lines) (answer_text answer) → IsPrinted steps answer
  pub alone : AllByRecursion (λ step. AcknowledgeNoOther acknowledge.source acknowledge.count upload (answered_in step) (answers_of step)) steps

-- That `acknowledged` ends with 0 says so of the lines that it read.
abbrev pub TellsAll : Type 0
TellsAll = (upload lines : List ℕ) (old new : Option (List ℕ)) → TellsOfUpload upload (Some lines) Success old new → AcknowledgeAll upload lines

-- Then each entry that the upload reads as is in one of the databases, or was as long as that was there.
abbrev pub DeletesSafely : Type 0
DeletesSafely =
    (b c : Between) (steps : List Step) → Keeps b steps c → (upload lines : List ℕ) → MayDelete upload lines steps
    → HoldsOfAll (IsInOne (journals c)) upload
