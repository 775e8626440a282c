-- What an open finds after a crash, of the uploads that a run collected. (own)
use Rattle.std.specs.Prelude.{ℕ, ◌≡◌, ◌+◌, ◌<◌, ◌≤◌, Bool, List, [], ◌∷◌, ◌++◌, length, map, slice_get, take, Option, Some, Result, Ok, ◌⊎◌, ⊤}
use Rattle.std.specs.Io.KnownBytes.{Appends}
use Rattle.jc_base.specs.declared.fault.Code.TheVariants.{StoreFailed, OutOfMemory}
use Rattle.jc_base.specs.declared.fault.Ending.TheVariants.{End}
use Rattle.jc_base.specs.declared.id.Id128.{Id128}
use Rattle.jc_base.specs.declared.limits.Limits.{Limits}
use Rattle.jc_base.specs.Fault.{number_of}
use Rattle.jc_base.specs.Journal.{Journal}
use Rattle.jc_base.specs.LogEntry.{LogEntry}
use Rattle.jc_base.specs.Reading.{Reading}
use Rattle.jc_keeper.specs.declared.keeper.Absorbed.{Absorbed}
use Rattle.jc_keeper.specs.declared.keeper.Absorbed.TheVariants.{Taken}
use Rattle.jc_keeper.specs.declared.keeper.KeepStop.{KeepStop}
use Rattle.jc_keeper.specs.Agree.{IsStored}
use Rattle.jc_keeper.specs.Crash.{AddsOnly, MayBeFound}
use Rattle.jc_upload.specs.Answer.{answer_text}
use Rattle.jc_upload.specs.declared.answer.Answer.{Answer}
use Rattle.jc_upload.specs.declared.answer.Answer.TheVariants.{Ack, No}
use Rattle.jc_collect.specs.Accepted.{IsMarked, SaysAt, IsStoredBefore}
use Rattle.jc_collect.specs.Answer.{IsTaken}
use Rattle.jc_collect.specs.Body.{AbsorbsBody}
use Rattle.jc_collect.specs.Chain.{is_acknowledged}
use Rattle.jc_collect.specs.Position.{Collects}
use Rattle.jc_collect.specs.Run.{lines_of_answers}
use Rattle.jc_collect.specs.declared.runs.RunEnd.{RunEnd}
use Rattle.jc_collect.specs.declared.runs.RunEnd.TheVariants.{Done, Stopped}

-- ---- one upload

-- A whole body was taken up, whose answer allows it: the journal is the one that it has behind an answer which says so.
pub record TakesBody (Says : Reading → Type 0) (before : Journal) (answer : Result Absorbed KeepStop) (after : Journal) : Type 0 where
  pub answered : MayBeFound answer
  pub count : ℕ
  pub new : ℕ
  pub left : ℕ
  pub absorbs : AbsorbsBody Says before (Ok (Taken count new left)) after

-- The answer says that the store failed, or was refused memory.
abbrev pub IsUnstored : Answer → Type 0
IsUnstored (Ack source start count new left) = ⊥
IsUnstored (No of code place) = (code ≡ number_of StoreFailed) ⊎ (code ≡ number_of OutOfMemory)

-- An upload with this answer may be kept behind a crash: it was acknowledged, or the store failed, or was refused memory.
abbrev pub MayBeKept : Answer → Type 0
MayBeKept (Ack source start count new left) = ⊤
MayBeKept (No of code place) = IsUnstored (No of code place)

-- A whole upload was taken up, whose answer allows it: the journal is the one that it has behind an acknowledgement.
pub record TakesUpload (limits : Limits) (known : Option (List ℕ)) (before : Journal) (answer : Answer) (after : Journal) : Type 0 where
  pub answered : MayBeKept answer
  pub source : Id128
  pub start : ℕ
  pub count : ℕ
  pub new : ℕ
  pub left : ℕ
  pub collects : Collects limits known before (Ack source start count new left) after

-- ---- uploads of any bytes

-- What may be found now might have been found before; or the device was sound before, and it has all that was stored then.
abbrev pub LosesNothing : (before now : Journal → Type 0) → (Sound : Type 0) → (stored : Journal) → Type 0
LosesNothing before now Sound stored =
    AddsOnly before now (λ found. Sound × ((e : LogEntry) → IsStored stored e → IsStored found e))

-- ---- a run

abbrev pub acknowledged_in : List Answer → List Bool
acknowledged_in answers = map is_acknowledged answers

-- The upload at a position ends without a fault.
pub record IsWhole (limits : Limits) (uploads : List (List ℕ)) (i : ℕ) : Type 0 where
  pub reading : Reading
  pub says : SaysAt limits uploads i reading
  pub left : ℕ
  pub ended : reading.ending ≡ End left

-- The upload at a position is taken over what was stored before it: an acknowledgement may name this source and start, and
-- these numbers.
pub record IsTakenAt (limits : Limits) (start : Journal) (uploads : List (List ℕ)) (acknowledged : List Bool) (i : ℕ) (of : Id128 × ℕ) (count new left : ℕ)
    : Type 0 where
  pub upload : List ℕ
  pub at : slice_get uploads i ≡ Some upload
  pub journal : Journal
  pub stored : IsStoredBefore limits start uploads acknowledged i journal
  pub taken : IsTaken limits upload journal of count new left

-- Each acknowledgement says what is so of the upload at its position.
abbrev pub AcksAreRight : Limits → (start : Journal) → (uploads : List (List ℕ)) → List Answer → Type 0
AcksAreRight limits start uploads answers =
    (i : ℕ) (source : Id128) (from count new left : ℕ) → slice_get answers i ≡ Some (Ack source from count new left)
    → IsTakenAt limits start uploads (acknowledged_in answers) i (source, from) count new left

-- Uploads were collected and answered so, and a journal has what was stored before them, all of each one that was
-- acknowledged, and nothing else; or it has all of one more of them, which comes behind the acknowledged ones and was
-- answered 62 or 63: the store failed, or was refused memory.
pub record KeepsAcknowledged (limits : Limits) (start : Journal) (uploads : List (List ℕ)) (answers : List Answer) (found : Journal) : Type 0 where
  pub each : length answers ≡ length uploads
  -- the positions of the uploads that it has
  pub kept : List Bool
  pub each_kept : length kept ≡ length uploads
  pub stored : IsStoredBefore limits start uploads kept (length uploads) found
  pub whole : (i : ℕ) → IsMarked kept i → IsWhole limits uploads i
  pub acknowledged : (i : ℕ) → IsMarked (acknowledged_in answers) i → IsMarked kept i
  pub answered : (i : ℕ) (answer : Answer) → IsMarked kept i → slice_get answers i ≡ Some answer → MayBeKept answer
  pub acks : AcksAreRight limits start uploads answers
  pub last : (i k : ℕ) → IsMarked kept i → ¬ IsMarked (acknowledged_in answers) i → IsMarked kept k → k ≤ i

-- All uploads were collected, and the line of each answer was written.
pub record LeftAtEnd (limits : Limits) (start : Journal) (uploads : List (List ℕ)) (before after : Option (List ℕ)) (found : Journal) : Type 0 where
  pub answers : List Answer
  pub lines : Appends before after (lines_of_answers answers)
  pub keeps : KeepsAcknowledged limits start uploads answers found

-- The sink failed in the line of the upload with this number, from 0, which was already collected.
pub record LeftAtStop (limits : Limits) (start : Journal) (uploads : List (List ℕ)) (before after : Option (List ℕ)) (done written : ℕ) (found : Journal)
    : Type 0 where
  pub answers : List Answer
  pub last : Answer
  pub number : length answers ≡ done
  pub inside : done < length uploads
  pub within : written ≤ length (answer_text last)
  pub lines : Appends before after (lines_of_answers answers ++ take written (answer_text last))
  pub keeps : KeepsAcknowledged limits start (take (done + 1) uploads) (answers ++ last ∷ []) found

-- What is found after a crash behind a run that ended so.
abbrev pub IsLeft : Limits → (start : Journal) → (uploads : List (List ℕ)) → (before : Option (List ℕ)) → RunEnd → (after : Option (List ℕ)) → (found : Journal) → Type 0
IsLeft limits start uploads before Done after found = LeftAtEnd limits start uploads before after found
IsLeft limits start uploads before (Stopped done written) after found = LeftAtStop limits start uploads before after done written found
