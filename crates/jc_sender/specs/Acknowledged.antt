-- Whether answers acknowledge all of an upload. (own)
use Rattle.std.specs.Prelude.{◌≡◌, ℕ, List, ◌∷◌, ◌++◌, Option, Some, IfSome, true}
use Rattle.std.specs.Io.KnownBytes.{Appends, Keeps}
use Rattle.std.specs.List.{Contains}
use Rattle.jc_base.specs.declared.id.Id128.{Id128}
use Rattle.jc_upload.specs.Answer.{IsAnswer, answer_text}
use Rattle.jc_upload.specs.Head.{IsHead, head_text}
use Rattle.jc_upload.specs.Says.{HasHead}
use Rattle.jc_upload.specs.declared.answer.Answer.{Answer}
use Rattle.jc_upload.specs.declared.answer.Answer.TheVariants.{Ack, No}
use Rattle.jc_upload.specs.declared.head.Kind.TheVariants.{Export}
use Rattle.jc_upload.specs.declared.head.UploadHead.{UploadHead}
use Rattle.jc_upload.specs.declared.head.Version.TheVariants.{V2}
use Rattle.jc_command_shared.specs.Lines.{lines_of}
use Rattle.jc_command_shared.specs.declared.status.Status.{Status}
use Rattle.jc_command_shared.specs.declared.status.Status.TheVariants.{Success, Refused, Unanswered}
use Rattle.jc_sender.specs.declared.decided.Sent.{Sent}
use Rattle.jc_sender.specs.declared.decided.Outcome.{Outcome}
use Rattle.jc_sender.specs.declared.decided.Outcome.TheVariants as outcome

-- The header of an upload that brings an export stream from its first entry on, and is to be whole.
abbrev pub whole_head : Sent → UploadHead
whole_head sent = record { version = V2 true sent.count; kind = Export; source = sent.source; start = 0 }

-- These are the bytes of that header.
pub record IsHeadOf (bytes : List ℕ) (sent : Sent) : Type 0 where
  pub lawful : IsHead (whole_head sent)
  pub text : bytes ≡ head_text (whole_head sent)

-- An upload has it.
abbrev pub BringsAll : (upload : List ℕ) → Sent → Type 0
BringsAll upload sent = (body : List ℕ) × HasHead upload (whole_head sent) body

-- An ack of this source from its start, of as many entries as the header says, and nothing is left.
pub record IsAllOf (sent : Sent) (source : Id128) (start count left : ℕ) : Type 0 where
  pub own : source ≡ sent.source
  pub begun : start ≡ 0
  pub all : count ≡ sent.count
  pub ended : left ≡ 0

-- The answer acknowledges all of the upload.
abbrev pub AcknowledgesAll : Sent → Answer → Type 0
AcknowledgesAll sent (Ack source start count new left) = IsAllOf sent source start count left
AcknowledgesAll sent (No of code place) = ⊥

-- The answer refuses the upload.
abbrev pub Refuses : Sent → Answer → Type 0
Refuses sent (Ack source start count new left) = ⊥
Refuses sent (No of code place) = of ≡ Some (sent.source, 0)

-- One of the lines is that of such an answer.
pub record HasAnswer (Is : Answer → Type 0) (lines : List (List ℕ)) : Type 0 where
  pub answer : Answer
  pub lawful : IsAnswer answer
  pub is : Is answer
  pub line : Contains lines (answer_text answer)

-- This is the last of the lines that refuses the upload.
pub record IsLastRefusal (sent : Sent) (lines : List (List ℕ)) (answer : Answer) : Type 0 where
  pub lawful : IsAnswer answer
  pub refuses : Refuses sent answer
  pub before : List (List ℕ)
  pub behind : List (List ℕ)
  pub split : lines ≡ before ++ answer_text answer ∷ behind
  pub last : ¬ HasAnswer (Refuses sent) behind

-- What the lines say of the upload. A line that is no answer says nothing.
abbrev pub Says : Sent → (lines : List (List ℕ)) → Outcome → Type 0
Says sent lines outcome.Acknowledged = HasAnswer (AcknowledgesAll sent) lines
Says sent lines (outcome.Refused answer) = ¬ HasAnswer (AcknowledgesAll sent) lines × IsLastRefusal sent lines answer
Says sent lines outcome.Unanswered = ¬ HasAnswer (AcknowledgesAll sent) lines × ¬ HasAnswer (Refuses sent) lines

-- What some lines say, and others behind them.
abbrev pub after : Outcome → Outcome → Outcome
after outcome.Acknowledged behind = outcome.Acknowledged
after before outcome.Acknowledged = outcome.Acknowledged
after before (outcome.Refused answer) = outcome.Refused answer
after before outcome.Unanswered = before

-- What one answer says of it.
abbrev pub IsBy : Sent → Answer → Outcome → Type 0
IsBy sent answer outcome.Acknowledged = AcknowledgesAll sent answer
IsBy sent answer (outcome.Refused by) = (by ≡ answer) × Refuses sent answer
IsBy sent answer outcome.Unanswered = ¬ AcknowledgesAll sent answer × ¬ Refuses sent answer

-- The status of it, and what is printed: the line of a refusal, and nothing else.
abbrev pub Tells : Outcome → Status → (old new : Option (List ℕ)) → Type 0
Tells outcome.Acknowledged status old new = (status ≡ Success) × Keeps old new
Tells (outcome.Refused answer) status old new = (status ≡ Refused) × Appends old new (answer_text answer)
Tells outcome.Unanswered status old new = (status ≡ Unanswered) × Keeps old new

-- What a text of answers says of an upload was told.
pub record TellsOf (sent : Sent) (text : List ℕ) (status : Status) (old new : Option (List ℕ)) : Type 0 where
  pub outcome : Outcome
  pub says : Says sent (lines_of text) outcome
  pub told : Tells outcome status old new

-- What answers that may not be known say of the upload with these bytes was told.
pub record TellsOfUpload (upload : List ℕ) (given : Option (List ℕ)) (status : Status) (old new : Option (List ℕ)) : Type 0 where
  pub sent : Sent
  pub brings : BringsAll upload sent
  pub text : List ℕ
  pub came : IfSome given (λ held. text ≡ held)
  pub tells : TellsOf sent text status old new

-- ... of some upload, whose bytes no contract can name.
abbrev pub TellsOfSome : (given : Option (List ℕ)) → Status → (old new : Option (List ℕ)) → Type 0
TellsOfSome given status old new = (upload : List ℕ) × TellsOfUpload upload given status old new
