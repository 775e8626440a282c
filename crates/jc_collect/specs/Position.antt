-- What one delivery does to a journal, and what is answered. (own)
use Rattle.std.specs.Prelude.{ℕ, ◌≡◌, ◌<◌, ◌≤◌, Option, Some, None, MatchBool, List, length, ⊤}
use Rattle.std.specs.Io.KnownBytes.{Consumes}
use Rattle.jc_base.specs.declared.fault.Code.{Code}
use Rattle.jc_base.specs.declared.fault.Code.TheVariants.{ReadFailed}
use Rattle.jc_base.specs.declared.limits.Limits.{Limits}
use Rattle.jc_base.specs.Device.{Rose}
use Rattle.jc_base.specs.Fault.{number_of}
use Rattle.jc_base.specs.Journal.{Journal}
use Rattle.jc_base.specs.Reading.{Reading}
use Rattle.jc_keeper.specs.Absorb.{TakesWhole}
use Rattle.jc_keeper.specs.Agree.{HasBoth}
use Rattle.jc_upload.specs.declared.answer.Answer.{Answer}
use Rattle.jc_upload.specs.declared.answer.Answer.TheVariants.{Ack, No}
use Rattle.jc_upload.specs.Says.{Says}
use Rattle.jc_collect.specs.Answer.{IsAnswerTo, IsSetAside, is_set_aside}

-- The upload is set aside, or else this is the answer to it.
abbrev pub Answers : Limits → (upload : List ℕ) → Journal → Answer → Type 0
Answers limits upload journal answer =
    MatchBool (is_set_aside answer) (IsSetAside limits upload answer) (IsAnswerTo limits upload journal answer)

-- The journal afterwards has the entries of the one before and of the upload, and no others.
pub record Joins (limits : Limits) (upload : List ℕ) (before after : Journal) : Type 0 where
  pub reading : Reading
  pub says : Says limits upload reading
  pub has : HasBoth before reading.entries after

-- An acknowledged upload joins the journal, any other leaves it as it was.
abbrev pub Leaves : Limits → (upload : List ℕ) → (before : Journal) → Answer → (after : Journal) → Type 0
Leaves limits upload before (Ack source start count new left) after = Joins limits upload before after
Leaves limits upload before (No of code place) after = after ≡ before

-- One position of a run: the answer, and what is stored afterwards.
pub record IsPosition (limits : Limits) (upload : List ℕ) (before : Journal) (answer : Answer) (after : Journal) : Type 0 where
  pub answers : Answers limits upload before answer
  pub leaves : Leaves limits upload before answer after

-- What is stored afterwards if the delivery's bytes aren't known: what is acknowledged is some reading, taken up whole.
abbrev pub LeavesUnknown : (before : Journal) → Answer → (after : Journal) → Type 0
LeavesUnknown before (Ack source start count new left) after =
    (reading : Reading) × TakesWhole before reading count new left after
LeavesUnknown before (No of code place) after = after ≡ before

-- What a delivery does, by whether its bytes are known.
abbrev pub Collects : Limits → (known : Option (List ℕ)) → (before : Journal) → Answer → (after : Journal) → Type 0
Collects limits None before answer after = LeavesUnknown before answer after
Collects limits (Some upload) before answer after = IsPosition limits upload before answer after

-- ---- causes of failures

abbrev pub HasCode : Answer → Code → Type 0
HasCode (Ack source start count new left) code = ⊥
HasCode (No of number place) code = number ≡ number_of code

-- A failure with this code is reported only if the device's count of failures has risen.
pub record HasCause (code : Code) (before now : ℕ) (answer : Answer) : Type 0 where
  pub never_falls : before ≤ now
  pub failed : HasCode answer code → Rose before now

-- Reading failed before there was a header: the answer names no source.
abbrev pub FailsUnread : Answer → Type 0
FailsUnread (Ack source start count new left) = ⊥
FailsUnread (No None code place) = code ≡ number_of ReadFailed
FailsUnread (No (Some of) code place) = ⊥

-- The answer names no source: there was no header, or reading it failed.
abbrev pub NamesNone : Answer → Type 0
NamesNone (Ack source start count new left) = ⊥
NamesNone (No None code place) = ⊤
NamesNone (No (Some of) code place) = ⊥

-- A stream whose bytes are known has given fewer than this many of them.
pub record HasGivenFewer (most : ℕ) (before behind : Option (List ℕ)) : Type 0 where
  pub came : List ℕ
  pub front : Consumes before behind came
  pub few : length came < most
