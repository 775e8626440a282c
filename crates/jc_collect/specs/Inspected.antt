-- What an upload says, as it is answered without a journal. (own)
use Rattle.std.specs.Prelude.{ℕ, ◌≡◌, List, length, Option, Some, None, Result, Ok, Err, ⊤}
use Rattle.jc_base.specs.declared.fault.Ending.{Ending}
use Rattle.jc_base.specs.declared.fault.Ending.TheVariants as ending
use Rattle.jc_base.specs.declared.id.Id128.{Id128}
use Rattle.jc_base.specs.declared.id.Key.{Key}
use Rattle.jc_base.specs.declared.limits.Limits.{Limits}
use Rattle.jc_base.specs.declared.source.Stop.{Stop}
use Rattle.jc_base.specs.declared.source.Stop.TheVariants as stop
use Rattle.jc_base.specs.LogEntry.{LogEntry}
use Rattle.jc_base.specs.Reading.{Reading}
use Rattle.jc_base.specs.Source.{IsFormatCode}
use Rattle.jc_upload.specs.declared.head.Kind.{Kind}
use Rattle.jc_upload.specs.declared.head.UploadHead.{UploadHead}
use Rattle.jc_upload.specs.declared.head.Version.{Version}
use Rattle.jc_upload.specs.Says.{BodySays, Says, SaysBehind}
use Rattle.jc_upload.specs.Upload.{key_before}
use Rattle.jc_collect.specs.Answer.{named_by}
use Rattle.jc_collect.specs.Bounds.{AreWithin, PassesAt}
use Rattle.jc_collect.specs.Touched.{window_count}
use Rattle.jc_collect.specs.declared.bounds.Bounds.{Bounds}
use Rattle.jc_collect.specs.declared.head.Unread.{Unread}
use Rattle.jc_collect.specs.declared.head.Unread.TheVariants as unread
use Rattle.jc_collect.specs.declared.inspect.Body.{Body}
use Rattle.jc_collect.specs.declared.inspect.BodyEnding.{BodyEnding}
use Rattle.jc_collect.specs.declared.inspect.BodyEnding.TheVariants.{Ended, OverBounds}
use Rattle.jc_collect.specs.declared.inspect.Inspected.{Inspected}
use Rattle.jc_collect.specs.declared.inspect.Inspected.TheVariants.{Bad, Over, Upload}

-- the key of the last entry
abbrev pub last_key : List LogEntry → Option Key
last_key entries = key_before entries (length entries)

-- The upload's header names this source and this start, and its body has so many entries, in so many windows, within the
-- bounds, and ends without a fault.
pub record IsWell (limits : Limits) (bounds : Bounds) (upload : List ℕ) (of : Id128 × ℕ) (count left : ℕ) (last : Option Key) (windows : ℕ) : Type 0 where
  pub head : UploadHead
  pub reading : Reading
  pub says : SaysBehind limits upload head reading
  pub named : of ≡ named_by head
  pub ended : reading.ending ≡ ending.End left
  pub counted : count ≡ length reading.entries
  pub key : last ≡ last_key reading.entries
  pub wide : windows ≡ window_count reading.entries
  pub within : AreWithin bounds reading.entries

-- What the upload says ends in this fault, of its header or its body, and its entries before keep the bounds.
pub record IsFaulty (limits : Limits) (bounds : Bounds) (upload : List ℕ) (ending : Ending) : Type 0 where
  pub reading : Reading
  pub says : Says limits upload reading
  pub ended : reading.ending ≡ ending
  pub within : AreWithin bounds reading.entries

-- The entry at this place, from 0, is the first one with which the upload passes a bound.
pub record IsOver (limits : Limits) (bounds : Bounds) (upload : List ℕ) (place : ℕ) : Type 0 where
  pub reading : Reading
  pub says : Says limits upload reading
  pub passes : PassesAt bounds reading.entries place

-- What is answered of an upload is what it says.
abbrev pub IsInspected : Limits → Bounds → (upload : List ℕ) → Inspected → Type 0
IsInspected limits bounds upload (Upload source start count left last windows) = IsWell limits bounds upload (source, start) count left last windows
IsInspected limits bounds upload (Bad fault) = IsFaulty limits bounds upload (ending.Bad fault)
IsInspected limits bounds upload (Over place) = IsOver limits bounds upload place

-- A fault that is answered is one of an upload.
abbrev pub HasFormatCode : Inspected → Type 0
HasFormatCode (Upload source start count left last windows) = ⊤
HasFormatCode (Bad fault) = IsFormatCode fault.code
HasFormatCode (Over place) = ⊤

-- ---- by header and body

-- what is answered of an upload whose header can't be read
abbrev pub inspected_unread : Unread → Result Inspected Stop
inspected_unread (unread.Fault fault) = Ok (Bad fault)
inspected_unread unread.ReadFailed = Err stop.ReadFailed

-- what is answered of one with this header and this body
abbrev pub inspected_by : UploadHead → (count : ℕ) → Option Key → (windows : ℕ) → BodyEnding → Inspected
inspected_by head count last windows (Ended (ending.End left)) = Upload head.source head.start count left last windows
inspected_by head count last windows (Ended (ending.Bad fault)) = Bad fault
inspected_by head count last windows OverBounds = Over count

abbrev pub inspected_of : UploadHead → Body → Inspected
inspected_of head body = inspected_by head body.count body.last body.windows body.ending

-- A reading has so many entries, within the bounds, this last key, so many windows, and this ending.
pub record IsRead (bounds : Bounds) (reading : Reading) (count : ℕ) (last : Option Key) (windows : ℕ) (ending : Ending) : Type 0 where
  pub counted : count ≡ length reading.entries
  pub key : last ≡ last_key reading.entries
  pub wide : windows ≡ window_count reading.entries
  pub ended : ending ≡ reading.ending
  pub within : AreWithin bounds reading.entries

-- ... or passes a bound with the entry behind so many.
abbrev pub IsReadTo : Bounds → Reading → (count : ℕ) → Option Key → (windows : ℕ) → BodyEnding → Type 0
IsReadTo bounds reading count last windows (Ended ending) = IsRead bounds reading count last windows ending
IsReadTo bounds reading count last windows OverBounds = PassesAt bounds reading.entries count

-- The body is what the reading has, as far as the bounds go.
abbrev pub IsBody : Bounds → Reading → Body → Type 0
IsBody bounds reading body = IsReadTo bounds reading body.count body.last body.windows body.ending

-- ... of a reading that may not be known
abbrev pub HasBody : Bounds → Option Reading → Body → Type 0
HasBody bounds None body = ⊤
HasBody bounds (Some reading) body = IsBody bounds reading body

-- The body is what the bytes say under a header of this version and kind, if they are known.
abbrev pub SaysBodyOf : Limits → Bounds → Version → Kind → (known : Option (List ℕ)) → Body → Type 0
SaysBodyOf limits bounds version kind None body = ⊤
SaysBodyOf limits bounds version kind (Some bytes) body =
    (reading : Reading) × BodySays limits version kind bytes reading × IsBody bounds reading body

-- A fault at the end is one of an export stream, a journal file, or an upload that is to be whole.
abbrev pub FormatEnding : BodyEnding → Type 0
FormatEnding (Ended (ending.End left)) = ⊤
FormatEnding (Ended (ending.Bad fault)) = IsFormatCode fault.code
FormatEnding OverBounds = ⊤

abbrev pub EndsInFormat : Body → Type 0
EndsInFormat body = FormatEnding body.ending
