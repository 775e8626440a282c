-- What an upload needs of a stream whose entries aren't kept. (own)
use Rattle.std.specs.Prelude.{ℕ, ◌≡◌, Bool, true, false, List, ◌++◌, length, take, drop, flat_map, Option, Some, None, ⊤}
use Rattle.std.specs.List.{All}
use Rattle.jc_base.specs.declared.fault.Ending.{Ending}
use Rattle.jc_base.specs.declared.fault.Ending.TheVariants.{End, Bad}
use Rattle.jc_base.specs.declared.limits.Limits.{Limits}
use Rattle.jc_base.specs.LogEntry.{IsEntry, LogEntry}
use Rattle.jc_base.specs.Reading.{Reading}
use Rattle.jc_export.specs.Canonical.{canon}
use Rattle.jc_export.specs.Cut.{AllFit}
use Rattle.jc_stream.specs.StreamFault.{IsStreamFault}
use Rattle.jc_upload.specs.declared.excerpt.Excerpt.{Excerpt}
use Rattle.jc_upload.specs.declared.head.UploadHead.{UploadHead}
use Rattle.jc_upload.specs.Front.{CutsOfSecond}
use Rattle.jc_upload.specs.Head.{IsHead, head_text}
use Rattle.jc_upload.specs.Upload.{Agrees, Sender, export_head, key_before, second_head, sent_of}

-- A stream gave these entries, and they ended so: they are those of its reading, if that is known.
abbrev pub Gave : Option Reading → List LogEntry → Ending → Type 0
Gave None entries ending = ⊤
Gave (Some reading) entries ending = (entries ≡ reading.entries) × (ending ≡ reading.ending)

-- Entries as a stream has them under some limits, whatever its bytes are.
pub record AreOfStream (limits : Limits) (entries : List LogEntry) : Type 0 where
  pub lawful : All IsEntry entries
  pub fit : AllFit limits entries

-- An end, or the fault of a stream.
abbrev pub IsStreamEnding : Limits → Ending → Type 0
IsStreamEnding limits (End left) = ⊤
IsStreamEnding limits (Bad fault) = IsStreamFault limits fault

-- An excerpt of entries at a position: how many there are, the key of the last one before it, and those from there on,
-- the first of them if more than a limit remain.
pub record IsExcerpt (position limit : ℕ) (entries : List LogEntry) (excerpt : Excerpt) : Type 0 where
  pub counted : excerpt.count ≡ length entries
  pub before : excerpt.before ≡ key_before entries position
  pub carried : excerpt.carried.items ≡ take limit (drop position entries)

-- the header of an upload of so many entries, of the second version if it is to be whole
abbrev pub head_by : Sender → (whole : Bool) → (count : ℕ) → UploadHead
head_by sender true count = second_head sender true count
head_by sender false count = export_head sender

-- The next upload of a sender that agrees with these entries: what `next_upload` makes of them or, if it is to be whole,
-- `next_upload2`.
pub record IsNextUpload (sender : Sender) (entries : List LogEntry) (limit : ℕ) (whole : Bool) (upload : List ℕ) : Type 0 where
  pub text : upload ≡ head_text (head_by sender whole (length (sent_of sender entries limit))) ++ flat_map canon (sent_of sender entries limit)
  pub lawful : IsHead (head_by sender whole (length (sent_of sender entries limit)))
  pub agrees : Agrees sender.point entries
  pub front : CutsOfSecond whole (sent_of sender entries limit) upload
