-- A worked list of steps: two machines, four databases, a stop, one that left more than was acknowledged, an entry that comes
-- again, an upload that can't be read, a database that is set aside, a window of notes that goes, and an upload that its machine
-- may delete. (own)
use Rattle.std.specs.Prelude.{ℕ, ◌+◌, ◌*◌, ◌≡◌, Bool, true, false, List, [], ◌∷◌, ◌++◌, Option, Some, None}
use Rattle.std.specs.List.{Contains}
use Rattle.jc_base.specs.declared.fault.Code.TheVariants.{ReadFailed, StoreFailed}
use Rattle.jc_base.specs.declared.id.Id128.{Id128}
use Rattle.jc_base.specs.Fault.{number_of}
use Rattle.jc_base.specs.LogEntry.{LogEntry}
use Rattle.jc_export.specs.Cut.{joined}
use Rattle.jc_keeper.specs.Agree.{IsStored}
use Rattle.jc_ledger.specs.Kept.{IsKept, NoneCollide}
use Rattle.jc_ledger.specs.Owners.{machine_named}
use Rattle.jc_ledger_files.specs.declared.window_name.WindowName.{WindowName}
use Rattle.jc_ledger_files.specs.Windows.{same_window, window_of}
use Rattle.jc_upload.specs.Answer.{answer_text}
use Rattle.jc_upload.specs.Head.{head_text}
use Rattle.jc_upload.specs.declared.answer.Answer.{Answer}
use Rattle.jc_upload.specs.declared.answer.Answer.TheVariants.{Ack, No}
use Rattle.jc_upload.specs.declared.head.UploadHead.{UploadHead}
use Rattle.jc_runs.specs.Between.{Aside, Between, IsInOne, Kept, journals_of, nothing}
use Rattle.jc_runs.specs.Safe.{MayDelete, head_of_all}
use Rattle.jc_runs.specs.Stands.{Keeps}
use Rattle.jc_runs.specs.Steps.{Ends, Expires, LeadsOn, Step, Stops, Turns, forgets_windows}

-- sequences and sources, by a number
abbrev pub numbered : ℕ → Id128
numbered n = record { 0 = n ∷ 0 ∷ 0 ∷ 0 ∷ 0 ∷ 0 ∷ 0 ∷ 0 ∷ 0 ∷ 0 ∷ 0 ∷ 0 ∷ 0 ∷ 0 ∷ 0 ∷ 0 ∷ [] }

abbrev pub entry_at : (sequence number : ℕ) → LogEntry
entry_at sequence number = record {
  key = record { seqnum_id = numbered sequence; seqnum = number };
  body = record { realtime = 1; monotonic = 1; pairs = [] };
}

-- an entry of one machine, and two of another in the 65th window of its sequence
abbrev pub of_one : LogEntry
of_one = entry_at 1 1

abbrev pub of_other : LogEntry
of_other = entry_at 2 (64 * 4096 + 1)

abbrev pub of_lost : LogEntry
of_lost = entry_at 2 (64 * 4096 + 2)

-- All of a source in one upload: this entry.
abbrev pub head_of : (source : ℕ) → UploadHead
head_of source = head_of_all (numbered source) 1

abbrev pub upload_of : (source : ℕ) → LogEntry → List ℕ
upload_of source e = head_text (head_of source) ++ joined (e ∷ [])

abbrev pub alone : (source : ℕ) → LogEntry → List (Option (List ℕ))
alone source e = Some (upload_of source e) ∷ []

-- It is acknowledged, and so many of its entries are new.
abbrev pub ack_of : (source new : ℕ) → Answer
ack_of source new = Ack (numbered source) 0 1 new 0

abbrev pub acks : (source new : ℕ) → List Answer
acks source new = ack_of source new ∷ []

-- how an upload is answered whose file can't be read
abbrev pub unread : Answer
unread = No None (number_of ReadFailed) 0

-- how one is answered whose commit failed: it may be stored all the same
abbrev pub uncommitted : (source : ℕ) → Answer
uncommitted source = No (Some (numbered source, 0)) (number_of StoreFailed) 0

-- the window of the first machine's entry
abbrev pub of_its_window : WindowName → Bool
of_its_window w = same_window (window_of of_one.key) w

abbrev pub worked : List Step
worked =
    Ends (alone 1 of_one) (acks 1 1) ∷ Turns Kept ∷ Stops (alone 2 of_other) (acks 2 1) ∷ Ends (None ∷ alone 1 of_one) (unread ∷ acks 1 0)
    ∷ Turns Kept ∷ Stops (alone 3 of_lost) (uncommitted 3 ∷ []) ∷ Turns Aside ∷ forgets_windows of_its_window ∷ Ends (alone 1 of_one) (acks 1 1)
    ∷ Expires ∷ []

-- What they lead to: the first machine's entry is in one database, and was in another, since its note went; the other's is in one;
-- what a stop left beyond that was in the database that was set aside, and has no note; the sequences belong to whom they belonged
-- to.
pub record IsWorked (c : Between) : Type 0 where
  pub leads : LeadsOn nothing worked c
  pub apart : NoneCollide (Contains c.came)
  pub again : IsStored c.now of_one
  pub still : IsInOne (journals_of c.earlier) of_one
  pub went : c.forgotten of_one.key ≡ true
  pub other : IsInOne (journals_of c.earlier) of_other
  pub stayed : c.forgotten of_other.key ≡ false
  pub lost : IsInOne (journals_of c.earlier) of_lost
  pub unknown : c.known of_lost.key ≡ None
  pub went_aside : c.forgotten of_lost.key ≡ true
  pub owner : c.owner (numbered 1) ≡ Some (machine_named (1 ∷ []))
  pub owner_of_other : c.owner (numbered 2) ≡ Some (machine_named (2 ∷ []))
  -- what is noted is what its databases have
  pub kept : IsKept c.known c.past c.now (Contains c.came)
  -- what holds behind any list, and of an upload that is acknowledged
  pub keeps : Keeps nothing worked c
  pub may : MayDelete (upload_of 1 of_one) (answer_text (ack_of 1 1)) worked
