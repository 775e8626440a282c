-- What an upload says. (own)
use Rattle.std.specs.Prelude.{ℕ, ◌≡◌, ◌⊎◌, ◌&&◌, nat_eq, if◌then◌else◌, true, false, List, [], ◌++◌, length, ⊤}
use Rattle.jc_base.specs.declared.fault.Code.TheVariants.{Incomplete}
use Rattle.jc_base.specs.declared.fault.Ending.{Ending}
use Rattle.jc_base.specs.declared.fault.Ending.TheVariants.{End, Bad}
use Rattle.jc_base.specs.declared.fault.Fault.{Fault}
use Rattle.jc_base.specs.declared.limits.Limits.{Limits}
use Rattle.jc_base.specs.Reading.{Reading, reading}
use Rattle.jc_export.specs.Stream.{StreamReading}
use Rattle.jc_file.specs.FileReading.{IsFileReading}
use Rattle.jc_upload.specs.Head.{IsHead, IsHeadFault, fault_at, head_text}
use Rattle.jc_upload.specs.declared.head.Kind.{Kind}
use Rattle.jc_upload.specs.declared.head.Kind.TheVariants.{Export, File}
use Rattle.jc_upload.specs.declared.head.UploadHead.{UploadHead}
use Rattle.jc_upload.specs.declared.head.Version.{Version}
use Rattle.jc_upload.specs.declared.head.Version.TheVariants.{V1, V2}

-- An upload is this header, and this body after it.
pub record HasHead (upload : List ℕ) (head : UploadHead) (body : List ℕ) : Type 0 where
  pub lawful : IsHead head
  pub whole : upload ≡ head_text head ++ body

-- How a body of each kind reads. Places count from its first byte.
abbrev pub IsBodyReading : Limits → Kind → (body : List ℕ) → Reading → Type 0
IsBodyReading limits Export body r = StreamReading limits 0 body r
IsBodyReading limits File body r = IsFileReading limits body r

-- How an upload ends that is to be whole and has this many entries of the number that its header says: without a fault
-- only if it has them all and ends with the last of them.
abbrev pub ending_of_whole : (number count : ℕ) → Ending → Ending
ending_of_whole number count (End left) =
    if nat_eq left 0 && nat_eq count number then End left else Bad (fault_at Incomplete count)
ending_of_whole number count (Bad fault) = Bad fault

-- what the reading of a body is under a header of this version
abbrev pub reading_under : Version → Reading → Reading
reading_under V1 r = r
reading_under (V2 false entries) r = r
reading_under (V2 true entries) r = reading r.entries (ending_of_whole entries (length r.entries) r.ending)

-- An upload of this version isn't to be whole.
abbrev pub IsInParts : Version → Type 0
IsInParts V1 = ⊤
IsInParts (V2 false entries) = ⊤
IsInParts (V2 true entries) = ⊥

-- What a body says under a header of this version and kind.
pub record BodySays (limits : Limits) (version : Version) (kind : Kind) (body : List ℕ) (r : Reading) : Type 0 where
  pub read : Reading
  pub reads : IsBodyReading limits kind body read
  pub under : r ≡ reading_under version read

-- An upload has this header, and its body says so.
pub record SaysBehind (limits : Limits) (upload : List ℕ) (head : UploadHead) (r : Reading) : Type 0 where
  pub body : List ℕ
  pub has : HasHead upload head body
  pub reads : BodySays limits head.version head.kind body r

-- No entry, and the fault of a header that can't be read.
pub record SaysFault (upload : List ℕ) (r : Reading) : Type 0 where
  pub fault : Fault
  pub shown : IsHeadFault upload fault
  pub nothing : r ≡ reading [] (Bad fault)

-- What an upload says: the fault that its header shows, or the reading of its body.
abbrev pub Says : Limits → (upload : List ℕ) → Reading → Type 0
Says limits upload r = SaysFault upload r ⊎ ((head : UploadHead) × SaysBehind limits upload head r)
