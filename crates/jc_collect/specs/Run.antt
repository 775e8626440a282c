-- What a whole run is. (own)
use Rattle.std.specs.Prelude.{ℕ, ◌≡◌, ◌+◌, ◌<◌, ◌≤◌, Bool, List, [], ◌∷◌, ◌++◌, length, map, take, Option, Some, None, slice_get, slice_index, slice_index_or, ⊤}
use Rattle.std.specs.List.{All, flat_map}
use Rattle.std.specs.Io.KnownBytes.{Appends}
use Rattle.jc_base.specs.declared.fault.Code.{Code}
use Rattle.jc_base.specs.declared.fault.Code.TheVariants.{ReadFailed, StoreFailed, NotTheOwner}
use Rattle.jc_base.specs.declared.id.Id128.{Id128}
use Rattle.jc_base.specs.declared.limits.Limits.{Limits}
use Rattle.jc_base.specs.Device.{Rose}
use Rattle.jc_base.specs.Journal.{Journal}
use Rattle.jc_base.specs.LogEntry.{LogEntry}
use Rattle.jc_base.specs.Reading.{Reading}
use Rattle.jc_keeper.specs.Agree.{IsStored}
use Rattle.jc_upload.specs.Answer.{IsAnswer, answer_text}
use Rattle.jc_upload.specs.Head.{header_length}
use Rattle.jc_upload.specs.declared.answer.Answer.{Answer}
use Rattle.jc_upload.specs.declared.answer.Answer.TheVariants.{Ack}
use Rattle.jc_collect.specs.Accepted.{SaysAt, AreAccepted, IsStoredBefore}
use Rattle.jc_collect.specs.Answer.{is_set_aside}
use Rattle.jc_collect.specs.Position.{Answers, FailsUnread, HasCode, HasGivenFewer}
use Rattle.jc_collect.specs.declared.runs.RunEnd.{RunEnd}
use Rattle.jc_collect.specs.declared.runs.RunEnd.TheVariants.{Done, Stopped}

-- What a contract sees before and after a run: of its keeper, of its sink, and of the device of each delivery.
pub record Seen : Type 0 where
  pub journal : Journal
  pub store_failures : ℕ
  pub read_failures : List ℕ
  -- the bytes that each stream has left, if they are known; of a space nothing is known
  pub left : List (Option (List ℕ))
  pub written : Option (List ℕ)

abbrev pub seen : Journal → ℕ → List ℕ → List (Option (List ℕ)) → Option (List ℕ) → Seen
seen journal store_failures read_failures left written =
    record { journal = journal; store_failures = store_failures; read_failures = read_failures; left = left; written = written }

abbrev pub left_at : Seen → ℕ → Option (List ℕ)
left_at seen i = slice_index_or seen.left i None

-- The answer at a position is the one over what is stored before it, or it says why the upload was set aside.
pub record AnswersAt (limits : Limits) (start : Journal) (uploads : List (List ℕ)) (accepted : List Bool) (i : ℕ) (answer : Answer) : Type 0 where
  pub upload : List ℕ
  pub at : slice_get uploads i ≡ Some upload
  pub journal : Journal
  pub stored : IsStoredBefore limits start uploads accepted i journal
  pub answers : Answers limits upload journal answer

-- This many entries of the upload at a position are acknowledged, and they are all that it says; they are stored.
pub record AcksStored (limits : Limits) (uploads : List (List ℕ)) (i count : ℕ) (journal : Journal) : Type 0 where
  pub reading : Reading
  pub says : SaysAt limits uploads i reading
  pub all : count ≡ length reading.entries
  pub stored : All (IsStored journal) reading.entries

-- This code is answered only at positions of which this holds.
abbrev pub AreCaused : Code → List Answer → (Caused : ℕ → Type 0) → Type 0
AreCaused code answers Caused =
    (i : ℕ) (answer : Answer) → slice_get answers i ≡ Some answer → HasCode answer code → Caused i

-- These uploads were collected in order, and answered so.
pub record Collected (limits : Limits) (uploads : List (List ℕ)) (before after : Seen) (answers : List Answer) : Type 0 where
  pub each : length answers ≡ length uploads
  -- the accepted positions, and the answers over what is stored before each
  pub accepted : List Bool
  pub are_accepted : AreAccepted limits before.journal uploads (map is_set_aside answers) accepted
  pub answered : (i : ℕ) (answer : Answer) → slice_get answers i ≡ Some answer
      → AnswersAt limits before.journal uploads accepted i answer
  -- what is stored at the end
  pub stored : IsStoredBefore limits before.journal uploads accepted (length uploads) after.journal
  -- what is acknowledged is stored, and so is all that was there before
  pub acknowledged : (i : ℕ) (source : Id128) (start count new left : ℕ) → slice_get answers i ≡ Some (Ack source start count new left)
      → AcksStored limits uploads i count after.journal
  pub kept : (e : LogEntry) → IsStored before.journal e → IsStored after.journal e
  -- failures are reported only where a count has risen
  pub reads : AreCaused ReadFailed answers (λ i. Rose (slice_index before.read_failures i) (slice_index after.read_failures i))
  pub stores : AreCaused StoreFailed answers (λ _. Rose before.store_failures after.store_failures)
  -- and one is reported without source and start only if fewer bytes came of a stream than a header has
  pub unread : (i : ℕ) (answer : Answer) → slice_get answers i ≡ Some answer → FailsUnread answer
      → HasGivenFewer header_length (left_at before i) (left_at after i)

-- the lines of answers, in order
abbrev pub lines_of_answers : List Answer → List ℕ
lines_of_answers answers = flat_map answer_text answers

-- All uploads were collected, and the line of each answer was written.
pub record RunsToEnd (limits : Limits) (uploads : List (List ℕ)) (before after : Seen) : Type 0 where
  pub answers : List Answer
  pub collected : Collected limits uploads before after answers
  pub lines : Appends before.written after.written (lines_of_answers answers)

-- The sink failed in the line of the upload with this number, from 0, which was already collected. The lines before it
-- were written, and this many bytes of its own.
pub record StopsAt (limits : Limits) (uploads : List (List ℕ)) (before after : Seen) (done written : ℕ) : Type 0 where
  pub answers : List Answer
  pub last : Answer
  pub number : length answers ≡ done
  pub inside : done < length uploads
  pub collected : Collected limits (take (done + 1) uploads) before after (answers ++ last ∷ [])
  pub within : written ≤ length (answer_text last)
  pub lines : Appends before.written after.written (lines_of_answers answers ++ take written (answer_text last))

-- A run over uploads, and how it ended.
abbrev pub IsRun : Limits → (uploads : List (List ℕ)) → (before : Seen) → RunEnd → (after : Seen) → Type 0
IsRun limits uploads before Done after = RunsToEnd limits uploads before after
IsRun limits uploads before (Stopped done written) after = StopsAt limits uploads before after done written

-- ---- what is written, whether the deliveries' bytes are known or not

-- The lines of this many answers were written, in order.
pub record AreWritten (count : ℕ) (before now : Option (List ℕ)) : Type 0 where
  pub answers : List Answer
  pub number : length answers ≡ count
  pub lawful : All IsAnswer answers
  pub lines : Appends before now (lines_of_answers answers)

-- ... and after them this many bytes of the line of one more.
pub record AreWrittenUpTo (count written : ℕ) (before now : Option (List ℕ)) : Type 0 where
  pub answers : List Answer
  pub last : Answer
  pub number : length answers ≡ count
  pub lawful : All IsAnswer (answers ++ last ∷ [])
  pub within : written ≤ length (answer_text last)
  pub lines : Appends before now (lines_of_answers answers ++ take written (answer_text last))

-- A run over this many deliveries writes a line for each of them, or up to the place at which it stopped.
abbrev pub WritesEach : (deliveries : ℕ) → (before now : Option (List ℕ)) → RunEnd → Type 0
WritesEach deliveries before now Done = AreWritten deliveries before now
WritesEach deliveries before now (Stopped done written) = (done < deliveries) × AreWrittenUpTo done written before now

-- The same, and this holds of the answers, that of the line at which it stopped too.
abbrev pub WritesWith : (Holds : List Answer → Type 0) → (deliveries : ℕ) → (before now : Option (List ℕ)) → RunEnd → Type 0
WritesWith Holds deliveries before now Done = (wrote : AreWritten deliveries before now) × Holds wrote.answers
WritesWith Holds deliveries before now (Stopped done written) =
    (done < deliveries) × (wrote : AreWrittenUpTo done written before now) × Holds (wrote.answers ++ wrote.last ∷ [])

-- That a sequence belongs to another machine is answered only if it may belong to one.
abbrev pub OnlyIfOwned : (HasOwners : Type 0) → List Answer → Type 0
OnlyIfOwned HasOwners answers = AreCaused NotTheOwner answers (λ _. HasOwners)

-- A run stops only if the sink's count of failures has risen.
pub record SinkFailed (before now : ℕ) (end : RunEnd) : Type 0 where
  pub never_falls : before ≤ now
  pub rose : (done written : ℕ) → end ≡ Stopped done written → Rose before now

-- Deliveries after the one at which a run stopped are as they were.
abbrev pub LeavesOthers : {D : Type 0} → (before now : List D) → RunEnd → Type 0
LeavesOthers before now Done = ⊤
LeavesOthers before now (Stopped done written) = (i : ℕ) → done < i → slice_get now i ≡ slice_get before i
