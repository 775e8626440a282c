-- The answer to an upload over a journal. (own)
use Rattle.std.specs.Prelude.{ℕ, ◌≡◌, ◌+◌, ◌<◌, ◌⊎◌, ◌==◌, ◌||◌, Bool, false, IsTrue, List, length, Some, None}
use Rattle.std.specs.FinMap.{len}
use Rattle.jc_base.specs.declared.fault.Code.TheVariants.{Conflict, ReadFailed, StoreFailed, OutOfMemory, NotTheOwner}
use Rattle.jc_base.specs.declared.fault.Ending.TheVariants.{End, Bad}
use Rattle.jc_base.specs.declared.fault.Fault.{Fault}
use Rattle.jc_base.specs.declared.id.Id128.{Id128}
use Rattle.jc_base.specs.declared.limits.Limits.{Limits}
use Rattle.jc_base.specs.Fault.{number_of}
use Rattle.jc_base.specs.Journal.{Journal}
use Rattle.jc_base.specs.LogEntry.{LogEntry}
use Rattle.jc_base.specs.Reading.{Reading}
use Rattle.jc_keeper.specs.Agree.{Agree, HasBoth, IsFirstConflict}
use Rattle.jc_upload.specs.declared.answer.Answer.{Answer}
use Rattle.jc_upload.specs.declared.answer.Answer.TheVariants.{Ack, No}
use Rattle.jc_upload.specs.declared.head.UploadHead.{UploadHead}
use Rattle.jc_upload.specs.Says.{HasHead, SaysBehind}
use Rattle.jc_upload.specs.Head.{IsHeadFault}

-- the source and the start that a header names
abbrev pub named_by : UploadHead → Id128 × ℕ
named_by head = (head.source, head.start)

-- This many keys of the entries aren't in the journal: it grows by as many when they are taken up.
abbrev pub AreNew : Journal → List LogEntry → ℕ → Type 0
AreNew journal entries new = (joined : Journal) × HasBoth journal entries joined × (len joined ≡ len journal + new)

-- The upload is taken: it ended without a fault, and agrees with itself and with the journal.
pub record IsTaken (limits : Limits) (upload : List ℕ) (journal : Journal) (of : Id128 × ℕ) (count new left : ℕ) : Type 0 where
  pub head : UploadHead
  pub reading : Reading
  pub says : SaysBehind limits upload head reading
  pub named : of ≡ named_by head
  pub ended : reading.ending ≡ End left
  pub agrees : Agree journal reading.entries
  pub counted : count ≡ length reading.entries
  pub grown : AreNew journal reading.entries new

-- A number and a place report a fault.
pub record Reports (fault : Fault) (code place : ℕ) : Type 0 where
  pub number : code ≡ number_of fault.code
  pub at : place ≡ fault.place

-- An entry differs from another one under its key: the number of the first such entry is reported.
pub record ReportsConflict (journal : Journal) (reading : Reading) (code place : ℕ) : Type 0 where
  pub number : code ≡ number_of Conflict
  pub first : IsFirstConflict journal reading.entries place

-- No entry does, and the reading ends in a fault.
pub record ReportsFault (journal : Journal) (reading : Reading) (code place : ℕ) : Type 0 where
  pub agrees : Agree journal reading.entries
  pub fault : Fault
  pub ended : reading.ending ≡ Bad fault
  pub reported : Reports fault code place

-- The upload is refused for what its body says. A conflict is reported rather than a fault after it.
pub record IsRefused (limits : Limits) (upload : List ℕ) (journal : Journal) (of : Id128 × ℕ) (code place : ℕ) : Type 0 where
  pub head : UploadHead
  pub reading : Reading
  pub says : SaysBehind limits upload head reading
  pub named : of ≡ named_by head
  pub why : ReportsConflict journal reading code place ⊎ ReportsFault journal reading code place

-- The upload is refused for its header.
pub record IsUnread (upload : List ℕ) (code place : ℕ) : Type 0 where
  pub fault : Fault
  pub shown : IsHeadFault upload fault
  pub reported : Reports fault code place

-- The answer to an upload over what is stored.
abbrev pub IsAnswerTo : Limits → (upload : List ℕ) → Journal → Answer → Type 0
IsAnswerTo limits upload journal (Ack source start count new left) = IsTaken limits upload journal (source, start) count new left
IsAnswerTo limits upload journal (No None code place) = IsUnread upload code place
IsAnswerTo limits upload journal (No (Some of) code place) = IsRefused limits upload journal of code place

-- ---- an upload that is set aside: what is answered isn't decided by the upload and the journal

-- reading, the store or memory failed
abbrev pub is_failure_code : ℕ → Bool
is_failure_code code = code == number_of ReadFailed || code == number_of StoreFailed || code == number_of OutOfMemory

abbrev pub is_failure : Answer → Bool
is_failure (Ack source start count new left) = false
is_failure (No of code place) = is_failure_code code

-- ... or a sequence belongs to another machine
abbrev pub is_set_aside_code : ℕ → Bool
is_set_aside_code code = is_failure_code code || code == number_of NotTheOwner

abbrev pub is_set_aside : Answer → Bool
is_set_aside (Ack source start count new left) = false
is_set_aside (No of code place) = is_set_aside_code code

-- A failure once the header was read.
pub record FailsBehind (upload : List ℕ) (of : Id128 × ℕ) (code place : ℕ) : Type 0 where
  pub head : UploadHead
  pub body : List ℕ
  pub has : HasHead upload head body
  pub named : of ≡ named_by head
  pub failure : IsTrue (is_failure_code code)
  pub at : place ≡ 0

-- While a header is read, nothing but reading fails.
pub record FailsBefore (code place : ℕ) : Type 0 where
  pub failure : code ≡ number_of ReadFailed
  pub at : place ≡ 0

-- The sequence of an entry belongs to another machine: the entry's number is the place.
pub record IsNotOwned (limits : Limits) (upload : List ℕ) (of : Id128 × ℕ) (code place : ℕ) : Type 0 where
  pub head : UploadHead
  pub reading : Reading
  pub says : SaysBehind limits upload head reading
  pub named : of ≡ named_by head
  pub number : code ≡ number_of NotTheOwner
  pub within : place < length reading.entries

-- Why an upload is set aside, with the source and the start if the header was read.
abbrev pub IsSetAside : Limits → (upload : List ℕ) → Answer → Type 0
IsSetAside limits upload (Ack source start count new left) = ⊥
IsSetAside limits upload (No None code place) = FailsBefore code place
IsSetAside limits upload (No (Some of) code place) = FailsBehind upload of code place ⊎ IsNotOwned limits upload of code place
