-- What a sender keeps, the uploads that it makes, and what an answer to one changes. (own)
use Rattle.std.specs.Prelude.{ℕ, zero, suc, ◌≡◌, ◌⊎◌, ◌+◌, ◌<◌, ◌≤◌, Bool, List, [], ◌∷◌, ◌++◌, codes, length, take, drop, flat_map, slice_get, Option, None}
use Rattle.std.specs.Option.{option_map}
use Rattle.jc_base.specs.declared.id.Id128.{Id128}
use Rattle.jc_base.specs.declared.id.Key.{Key}
use Rattle.jc_base.specs.LogEntry.{LogEntry}
use Rattle.jc_export.specs.Canonical.{canon}
use Rattle.jc_upload.specs.declared.head.Kind.TheVariants.{Export, File}
use Rattle.jc_upload.specs.declared.head.UploadHead.{UploadHead}
use Rattle.jc_upload.specs.declared.head.Version.TheVariants.{V1, V2}
use Rattle.jc_upload.specs.declared.answer.Answer.{Answer}
use Rattle.jc_upload.specs.declared.answer.Answer.TheVariants.{Ack, No}
use Rattle.jc_upload.specs.declared.uploader.UploadFault.{UploadFault}
use Rattle.jc_upload.specs.declared.uploader.UploadFault.TheVariants.{SourceChanged, OutOfMemory}
use Rattle.jc_upload.specs.Head.{head_text}
use Rattle.jc_upload.specs.Resume.{Point}

-- A source's id, and how many of its entries are acknowledged.
pub record Sender : Type 0 where
  pub source : Id128
  pub point : Point

-- what is said of there being no next upload
abbrev pub fault_text : UploadFault → List ℕ
fault_text SourceChanged = codes "the source changed"
fault_text OutOfMemory = codes "out of memory"

-- ---- a source's entries and a resume point

-- the key of the last of the first n entries
abbrev pub key_before : List LogEntry → ℕ → Option Key
key_before entries zero = None
key_before entries (suc n) = option_map (λ e. e.key) (slice_get entries n)

abbrev pub point_behind : List LogEntry → ℕ → Point
point_behind entries n = record { position = n; last = key_before entries n }

-- The source still has as many entries, and the last of them has the kept key.
pub record Agrees (point : Point) (entries : List LogEntry) : Type 0 where
  pub within : point.position ≤ length entries
  pub last : key_before entries point.position ≡ point.last

-- ---- uploads

-- the header of an upload that starts at the point
abbrev pub export_head : Sender → UploadHead
export_head sender = record { version = V1; kind = Export; source = sender.source; start = sender.point.position }

abbrev pub file_head : Id128 → UploadHead
file_head source = record { version = V1; kind = File; source = source; start = 0 }

-- ... of the second version, which has this many entries, and may be to be whole
abbrev pub second_head : Sender → (whole : Bool) → (count : ℕ) → UploadHead
second_head sender whole count = record { version = V2 whole count; kind = Export; source = sender.source; start = sender.point.position }

-- the entries from the point on, the first of them if more than the limit remain
abbrev pub sent_of : Sender → List LogEntry → ℕ → List LogEntry
sent_of sender entries limit = take limit (drop sender.point.position entries)

-- the header, and the canonical texts of these entries
abbrev pub next_upload_of : Sender → List LogEntry → ℕ → List ℕ
next_upload_of sender entries limit = head_text (export_head sender) ++ flat_map canon (sent_of sender entries limit)

abbrev pub next_upload2_of : Sender → List LogEntry → ℕ → Bool → List ℕ
next_upload2_of sender entries limit whole =
    head_text (second_head sender whole (length (sent_of sender entries limit))) ++ flat_map canon (sent_of sender entries limit)

abbrev pub file_upload_of : Id128 → List ℕ → List ℕ
file_upload_of source bytes = head_text (file_head source) ++ bytes

-- ---- answers

-- An ack of these entries of this source moves the point on.
pub record MovesOn (sender : Sender) (entries : List LogEntry) (source : Id128) (start count : ℕ) : Type 0 where
  pub agrees : Agrees sender.point entries
  pub own : source ≡ sender.source
  pub begun : start ≤ sender.point.position
  pub further : sender.point.position < start + count
  pub within : start + count ≤ length entries

abbrev pub Advances : Sender → List LogEntry → Answer → Type 0
Advances sender entries (Ack source start count new left) = MovesOn sender entries source start count
Advances sender entries (No of code place) = ⊥

-- how many of the source's entries an ack says are stored, from the first on
abbrev pub acked_to : Answer → ℕ
acked_to (Ack source start count new left) = start + count
acked_to (No of code place) = 0

-- the sender once its point is there
abbrev pub moved_to : Sender → List LogEntry → ℕ → Sender
moved_to sender entries n = record { source = sender.source; point = point_behind entries n }

-- The sender before an answer and after it: the answer moves it on, or nothing changes.
abbrev pub TakesAnswer : List LogEntry → Answer → (before after : Sender) → Type 0
TakesAnswer entries answer before after =
    (Advances before entries answer × (after ≡ moved_to before entries (acked_to answer)))
    ⊎ ((¬ Advances before entries answer) × (after ≡ before))

-- ... and after several, in their order.
abbrev pub TakesAnswers : List LogEntry → List Answer → (before after : Sender) → Type 0
TakesAnswers entries [] before after = after ≡ before
TakesAnswers entries (answer ∷ answers) before after =
    (middle : Sender) × TakesAnswer entries answer before middle × TakesAnswers entries answers middle after
