-- What each event does to a world, if it may happen. (own)
use Rattle.std.specs.Prelude.{ℕ, ◌≡◌, ◌+◌, ◌<◌, ◌≤◌, ◌⊎◌, Bool, List, length, take, Option, Some, None, slice_get}
use Rattle.std.specs.List.{Contains}
use Rattle.jc_base.specs.Journal.{Journal}
use Rattle.jc_base.specs.LogEntry.{IsEntry, LogEntry}
use Rattle.jc_base.specs.declared.fault.Code.TheVariants.{ReadFailed}
use Rattle.jc_base.specs.declared.id.Id128.{Id128}
use Rattle.jc_base.specs.declared.limits.Limits.{Limits}
use Rattle.jc_upload.specs.declared.answer.Answer.{Answer}
use Rattle.jc_upload.specs.declared.answer.Answer.TheVariants.{Ack, No}
use Rattle.jc_upload.specs.declared.head.UploadHead.{UploadHead}
use Rattle.jc_upload.specs.Head.{IsHead}
use Rattle.jc_upload.specs.Resume.{Point}
use Rattle.jc_upload.specs.Upload.{acked_to, export_head, file_head, file_upload_of, next_upload2_of, next_upload_of, point_behind, second_head, sent_of}
use Rattle.jc_collect.specs.Position.{HasCode, IsPosition}
use Rattle.jc_upload.specs.Says.{HasHead}
use Rattle.jc_world.specs.Given.{FileReadsFront}
use Rattle.jc_world.specs.State.{MachineState, State, source_of, sources, with_answer, with_entry, with_machine, with_point, with_saved, with_upload}
use Rattle.jc_world.specs.declared.event.Event.{Event}
use Rattle.jc_world.specs.declared.event.Event.TheVariants.{Append, Make, Make2, MakeFile, Deliver, Alien, Hand, Restart}

-- ---- a machine's entries and uploads

-- One more entry stands at the end of a machine's.
pub record Appends (s : State) (m : ℕ) (entry : LogEntry) (t : State) : Type 0 where
  pub machine : MachineState
  pub at : slice_get s.machines m ≡ Some machine
  pub lawful : IsEntry entry
  pub after : t ≡ with_machine s m (with_entry machine entry)

-- One more upload: from the resume point on, the canonical texts of a machine's entries, the first of them if more than
-- the limit remain.
pub record Makes (s : State) (m limit : ℕ) (t : State) : Type 0 where
  pub machine : MachineState
  pub at : slice_get s.machines m ≡ Some machine
  pub head : IsHead (export_head machine.sender)
  pub after : t ≡ with_upload s (next_upload_of machine.sender machine.entries limit)

-- One more upload with a header of the second version, which says how many entries it has.
pub record Makes2 (s : State) (m limit : ℕ) (whole : Bool) (t : State) : Type 0 where
  pub machine : MachineState
  pub at : slice_get s.machines m ≡ Some machine
  pub head : IsHead (second_head machine.sender whole (length (sent_of machine.sender machine.entries limit)))
  pub after : t ≡ with_upload s (next_upload2_of machine.sender machine.entries limit whole)

-- One more upload: the bytes of a journal file that reads without a fault as the first of a machine's entries.
pub record MakesFile (limits : Limits) (s : State) (m : ℕ) (file : List ℕ) (t : State) : Type 0 where
  pub machine : MachineState
  pub at : slice_get s.machines m ≡ Some machine
  pub reads : FileReadsFront limits file machine.entries
  pub head : IsHead (file_head machine.sender.source)
  pub after : t ≡ with_upload s (file_upload_of machine.sender.source file)

-- ---- deliveries

-- The collector answers a delivery: either by the answer to these bytes, and the journal has what they say if they are
-- accepted; or the store or memory failed, and the journal stays. Reading bytes in memory never fails.
pub record Answers (limits : Limits) (delivery : List ℕ) (before : Journal) (answer : Answer) (after : Journal) : Type 0 where
  pub position : IsPosition limits delivery before answer after
  pub read : ¬ HasCode answer ReadFailed

-- ... and the answer is kept.
pub record Collects (limits : Limits) (s : State) (delivery : List ℕ) (t : State) : Type 0 where
  pub answer : Answer
  pub journal : Journal
  pub answers : Answers limits delivery s.journal answer journal
  pub after : t ≡ with_answer s answer journal

-- The first bytes of an upload that was made are delivered.
pub record Delivers (limits : Limits) (s : State) (i cut : ℕ) (t : State) : Type 0 where
  pub upload : List ℕ
  pub at : slice_get s.uploads i ≡ Some upload
  pub within : cut ≤ length upload
  pub collects : Collects limits s (take cut upload) t

-- Bytes don't begin with a header that names the source of one of the machines.
abbrev pub IsAlien : (ids : List Id128) → List ℕ → Type 0
IsAlien ids bytes = (head : UploadHead) (body : List ℕ) → HasHead bytes head body → ¬ Contains ids head.source

-- Bytes that no machine made are delivered.
pub record DeliversAlien (limits : Limits) (s : State) (bytes : List ℕ) (t : State) : Type 0 where
  pub alien : IsAlien (sources s) bytes
  pub collects : Collects limits s bytes t

-- ---- answers

-- the source that an answer names, if it names one
abbrev pub named : Answer → Option Id128
named (Ack source start count new left) = Some source
named (No None code place) = None
named (No (Some of) code place) = Some of.0

-- An ack begins at or before a machine's resume point, and ends after it and within the machine's entries.
pub record Reaches (machine : MachineState) (start count : ℕ) : Type 0 where
  pub begun : start ≤ machine.sender.point.position
  pub further : machine.sender.point.position < start + count
  pub within : start + count ≤ length machine.entries

abbrev pub MovesOn : MachineState → Answer → Type 0
MovesOn machine (Ack source start count new left) = Reaches machine start count
MovesOn machine (No of code place) = ⊥

-- the machine once an answer moved its resume point on
abbrev pub moved_on : MachineState → Answer → MachineState
moved_on machine answer = with_saved machine (point_behind machine.entries (acked_to answer))

-- The machine that an answer names gets it: its resume point moves on, and is saved, or all stays.
pub record Hands (s : State) (j : ℕ) (t : State) : Type 0 where
  pub answer : Answer
  pub given : slice_get s.answers j ≡ Some answer
  pub m : ℕ
  pub machine : MachineState
  pub at : slice_get s.machines m ≡ Some machine
  pub own : named answer ≡ Some (source_of machine)
  pub after : (MovesOn machine answer × (t ≡ with_machine s m (moved_on machine answer)))
      ⊎ ((¬ MovesOn machine answer) × (t ≡ s))

-- A machine is back at a resume point that it saved.
pub record Restarts (s : State) (m k : ℕ) (t : State) : Type 0 where
  pub machine : MachineState
  pub at : slice_get s.machines m ≡ Some machine
  pub point : Point
  pub was : slice_get machine.saved k ≡ Some point
  pub after : t ≡ with_machine s m (with_point machine point)

-- ---- all of them

-- The event happens, and leads to this state.
abbrev pub Happens : Limits → (before : State) → Event → (after : State) → Type 0
Happens limits s (Append m entry) t = Appends s m entry t
Happens limits s (Make m limit) t = Makes s m limit t
Happens limits s (Make2 m limit whole) t = Makes2 s m limit whole t
Happens limits s (MakeFile m file) t = MakesFile limits s m file.items t
Happens limits s (Deliver i cut) t = Delivers limits s i cut t
Happens limits s (Alien bytes) t = DeliversAlien limits s bytes.items t
Happens limits s (Hand j) t = Hands s j t
Happens limits s (Restart m k) t = Restarts s m k t
