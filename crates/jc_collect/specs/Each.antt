-- Deliveries one after the other, whether their bytes are known or not. (own)
use Rattle.std.specs.Prelude.{ℕ, ◌≡◌, ◌+◌, ◌<◌, List, [], ◌∷◌, ◌++◌, length, map, Option, Some, slice_get, take, ◌⊎◌, ⊤}
use Rattle.std.specs.List.{All}
use Rattle.jc_base.specs.declared.fault.Code.TheVariants.{Conflict}
use Rattle.jc_base.specs.declared.limits.Limits.{Limits}
use Rattle.jc_base.specs.declared.id.Id128.{Id128}
use Rattle.jc_base.specs.Fault.{number_of}
use Rattle.jc_base.specs.Journal.{Journal}
use Rattle.jc_base.specs.LogEntry.{LogEntry}
use Rattle.jc_base.specs.Reading.{Reading}
use Rattle.jc_keeper.specs.Agree.{IsStored}
use Rattle.jc_upload.specs.declared.answer.Answer.{Answer}
use Rattle.jc_upload.specs.declared.answer.Answer.TheVariants.{Ack, No}
use Rattle.jc_collect.specs.Chain.{IsChain, Turn, journal_before, uploads_of}
use Rattle.jc_collect.specs.Crash.{IsUnstored, MayBeKept}
use Rattle.jc_collect.specs.Position.{Collects, LeavesUnknown}
use Rattle.jc_collect.specs.Run.{AreWritten, AreWrittenUpTo}
use Rattle.jc_collect.specs.declared.runs.RunEnd.{RunEnd}
use Rattle.jc_collect.specs.declared.runs.RunEnd.TheVariants.{Done, Stopped}

-- Each was collected and answered over what the one before left, and this is what the last one left.
abbrev pub CollectsEach : Limits → (known : List (Option (List ℕ))) → (start : Journal) → List Answer → (last : Journal) → Type 0
CollectsEach limits [] start [] last = last ≡ start
CollectsEach limits [] start (answer ∷ answers) last = ⊥
CollectsEach limits (known ∷ others) start [] last = ⊥
CollectsEach limits (known ∷ others) start (answer ∷ answers) last =
    (after : Journal) × Collects limits known start answer after × CollectsEach limits others after answers last

-- There is a reading for each acknowledgement, with as many entries as it counts, which was taken up whole over what the
-- answers before left. Any other answer left the journal. This is what the last one left.
abbrev pub StoresEach : (start : Journal) → List Answer → (last : Journal) → Type 0
StoresEach start [] last = last ≡ start
StoresEach start (answer ∷ answers) last = (after : Journal) × LeavesUnknown start answer after × StoresEach after answers last

-- ---- what a crash leaves

abbrev pub NoneAcknowledged : List Answer → Type 0
NoneAcknowledged [] = ⊤
NoneAcknowledged (Ack source start count new left ∷ answers) = ⊥
NoneAcknowledged (No of code place ∷ answers) = NoneAcknowledged answers

-- An upload that would be answered so may be answered so: where it would be acknowledged, or refused for a conflict, that
-- storing failed, too.
abbrev pub MayAnswer : (would answer : Answer) → Type 0
MayAnswer (Ack source start count new left) answer = MayBeKept answer
MayAnswer (No of code place) answer = (answer ≡ No of code place) ⊎ ((code ≡ number_of Conflict) × IsUnstored answer)

-- The first of these answers may be given to uploads that would be answered so.
abbrev pub BeginWith : (would answers : List Answer) → Type 0
BeginWith [] answers = ⊤
BeginWith (w ∷ would) [] = ⊥
BeginWith (w ∷ would) (a ∷ answers) = MayAnswer w a × BeginWith would answers

-- A journal is what the first of these answers made of the first one; or it has some more readings, too, whole ones and in
-- order, none of which an answer acknowledges: where one would, the store failed, or was refused memory.
pub record KeepsEach (start : Journal) (answers : List Answer) (found : Journal) : Type 0 where
  pub front : List Answer
  pub behind : List Answer
  pub whole : answers ≡ front ++ behind
  pub last : Journal
  pub stored : StoresEach start front last
  pub none : NoneAcknowledged behind
  pub would : List Answer
  pub begin : BeginWith would behind
  pub more : StoresEach last would found

-- A journal is what the first of these uploads made of another one, each of them whole. They may be answered so.
pub record Gathers (limits : Limits) (known : List (Option (List ℕ))) (start : Journal) (answers : List Answer) (found : Journal) : Type 0 where
  pub ahead : List (Option (List ℕ))
  pub others : List (Option (List ℕ))
  pub are : known ≡ ahead ++ others
  pub would : List Answer
  pub begin : BeginWith would answers
  pub collected : CollectsEach limits ahead start would found

-- A journal is what the first of these uploads made of the first journal, and they were answered so; or it has some of the next
-- ones, too, whole ones and in order. No answer behind the first ones acknowledges.
pub record KeepsCollected (limits : Limits) (known : List (Option (List ℕ))) (start : Journal) (answers : List Answer) (found : Journal) : Type 0 where
  pub ahead : List (Option (List ℕ))
  pub others : List (Option (List ℕ))
  pub are : known ≡ ahead ++ others
  pub front : List Answer
  pub behind : List Answer
  pub whole : answers ≡ front ++ behind
  pub last : Journal
  pub collected : CollectsEach limits ahead start front last
  pub none : NoneAcknowledged behind
  pub more : Gathers limits others last behind found

-- ---- over a keeper

-- What contracts see of a keeper: what it has stored, whether its device is sound, and what a crash may leave.
pub record Held : Type 1 where
  pub journal : Journal
  pub Sound : Type 0
  pub may_leave : Journal → Type 0

abbrev pub held : Journal → (Sound : Type 0) → (may_leave : Journal → Type 0) → Held
held journal Sound may_leave = record { journal = journal; Sound = Sound; may_leave = may_leave }

-- Uploads were answered so between two moments of a keeper, of each of which the bytes are known or not. While its device is
-- sound, it has stored what they made of the first journal. What a crash leaves now was possible before, and none of the
-- answers acknowledges; or the device was sound before, and the crash leaves what the first of them made of the first journal,
-- or that with some of the next ones.
pub record HoldsCollected (limits : Limits) (known : List (Option (List ℕ))) (before now : Held) (answers : List Answer) : Type 0 where
  pub collected : now.Sound → CollectsEach limits known before.journal answers now.journal
  pub found : (left : Journal) → now.may_leave left
      → (before.may_leave left × NoneAcknowledged answers) ⊎ (before.Sound × KeepsCollected limits known before.journal answers left)

-- ---- a run

-- All deliveries were collected, and the line of each answer was written.
pub record RanEach (limits : Limits) (known : List (Option (List ℕ))) (count : ℕ) (before now : Held) (written written_now : Option (List ℕ))
    : Type 0 where
  pub wrote : AreWritten count written written_now
  pub holds : HoldsCollected limits known before now wrote.answers

-- The sink failed in the line of the delivery with this number, from 0, which was already collected.
pub record StoppedEach (limits : Limits) (known : List (Option (List ℕ))) (before now : Held) (written written_now : Option (List ℕ)) (done bytes : ℕ)
    : Type 0 where
  pub inside : done < length known
  pub wrote : AreWrittenUpTo done bytes written written_now
  pub holds : HoldsCollected limits (take (done + 1) known) before now (wrote.answers ++ wrote.last ∷ [])

-- A run over deliveries, of each of which the bytes are known or not, and how it ended.
abbrev pub RunsEach : Limits → (known : List (Option (List ℕ))) → (before now : Held) → (written : Option (List ℕ)) → RunEnd
    → (written_now : Option (List ℕ)) → Type 0
RunsEach limits known before now written Done written_now = RanEach limits known (length known) before now written written_now
RunsEach limits known before now written (Stopped done bytes) written_now = StoppedEach limits known before now written written_now done bytes

-- ---- what follows

-- The journal has all that was stored at first, and as many entries of a reading as an acknowledgement counts, all of them.
pub record HasAcknowledged (start : Journal) (answers : List Answer) (journal : Journal) : Type 0 where
  pub kept : (e : LogEntry) → IsStored start e → IsStored journal e
  pub acknowledged : (i : ℕ) (source : Id128) (from count new left : ℕ) → slice_get answers i ≡ Some (Ack source from count new left)
      → (reading : Reading) × (count ≡ length reading.entries) × All (IsStored journal) reading.entries

-- Uploads with these bytes, one after the other, with these answers.
pub record IsKnownChain (limits : Limits) (uploads : List (List ℕ)) (start : Journal) (answers : List Answer) (last : Journal) : Type 0 where
  pub turns : List Turn
  pub uploads_are : uploads_of turns ≡ uploads
  pub answers_are : map (λ turn. turn.answer) turns ≡ answers
  pub chain : IsChain limits start turns
  pub last_is : journal_before start turns (length turns) ≡ last
