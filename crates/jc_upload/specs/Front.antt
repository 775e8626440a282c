-- What a beginning of an upload says. (own)
use Rattle.std.specs.Prelude.{ℕ, ◌≡◌, ◌<◌, ◌≤◌, ◌⊎◌, Bool, true, false, List, [], length, take}
use Rattle.jc_base.specs.declared.fault.Code.TheVariants.{Incomplete, ShortHeader}
use Rattle.jc_base.specs.declared.fault.Ending.TheVariants.{End, Bad}
use Rattle.jc_base.specs.declared.fault.Fault.{Fault}
use Rattle.jc_base.specs.declared.limits.Limits.{Limits}
use Rattle.jc_base.specs.LogEntry.{LogEntry}
use Rattle.jc_base.specs.Reading.{EndsWell, IsFront, Reading, reading}
use Rattle.jc_export.specs.Cut.{AllFit, ReadsBack}
use Rattle.jc_stream.specs.StreamFault.{IsStreamCode}
use Rattle.jc_file.specs.Cut.{IsCutShort}
use Rattle.jc_file.specs.FileReading.{IsFileReading}
use Rattle.jc_upload.specs.Head.{fault_at, header_length}
use Rattle.jc_upload.specs.Says.{Says}
use Rattle.jc_upload.specs.declared.head.Version.{Version}
use Rattle.jc_upload.specs.declared.head.Version.TheVariants.{V1, V2}

-- No entry: there are too few bytes for a header.
abbrev pub lacks_header : (cut : ℕ) → Reading
lacks_header cut = reading [] (Bad (fault_at ShortHeader cut))

-- What the first bytes of an upload of entries are read as: the first of these entries, without a fault if each of them
-- fits the limits. The whole upload is read back.
pub record ReadsFirst (limits : Limits) (entries : List LogEntry) (upload : List ℕ) (cut : ℕ) (r : Reading) : Type 0 where
  pub short : cut < header_length → r ≡ lacks_header cut
  pub first : header_length ≤ cut → IsFront r.entries entries
  pub ends : header_length ≤ cut → AllFit limits entries → EndsWell r
  pub whole : length upload ≤ cut → ReadsBack limits entries r

-- A reading of the first bytes of an upload that is to be whole ends with all entries, at full length alone, or in a
-- fault: 5, or for entries beyond the limits one of a stream.
abbrev pub EndsWhole : Limits → (entries : List LogEntry) → (upload : List ℕ) → (cut : ℕ) → Reading → Type 0
EndsWhole limits entries upload cut r =
    ((length upload ≤ cut) × (r ≡ reading entries (End 0))) ⊎ (r.ending ≡ Bad (fault_at Incomplete (length r.entries)))
    ⊎ (¬ AllFit limits entries × ((fault : Fault) × (r.ending ≡ Bad fault) × IsStreamCode fault.code))

-- What the first bytes of an upload of entries that is to be whole are read as: the first of these entries, and then the
-- fault that it is incomplete, or for entries beyond the limits a fault of its body, or none if all bytes are there. The
-- whole upload has no fault if each entry fits the limits.
pub record ReadsWhole (limits : Limits) (entries : List LogEntry) (upload : List ℕ) (cut : ℕ) (r : Reading) : Type 0 where
  pub short : cut < header_length → r ≡ lacks_header cut
  pub first : header_length ≤ cut → IsFront r.entries entries
  pub ends : header_length ≤ cut → EndsWhole limits entries upload cut r
  pub whole : length upload ≤ cut → AllFit limits entries → r ≡ reading entries (End 0)

-- So every beginning of an upload of these entries is read, under any limits.
abbrev pub CutsOfExport : (entries : List LogEntry) → (upload : List ℕ) → Type 0
CutsOfExport entries upload =
    (limits : Limits) (cut : ℕ) (r : Reading) → Says limits (take cut upload) r → ReadsFirst limits entries upload cut r

-- So every beginning of an upload of these entries that is to be whole is read, under any limits.
abbrev pub CutsOfWhole : (entries : List LogEntry) → (upload : List ℕ) → Type 0
CutsOfWhole entries upload =
    (limits : Limits) (cut : ℕ) (r : Reading) → Says limits (take cut upload) r → ReadsWhole limits entries upload cut r

-- What a beginning of an upload is read as by the version of its header.
abbrev pub CutsBy : Version → (entries : List LogEntry) → (upload : List ℕ) → Type 0
CutsBy V1 entries upload = CutsOfExport entries upload
CutsBy (V2 false number) entries upload = CutsOfExport entries upload
CutsBy (V2 true number) entries upload = number ≡ length entries → CutsOfWhole entries upload

-- ... and in the second version by whether it is to be whole
abbrev pub CutsOfSecond : (whole : Bool) → (entries : List LogEntry) → (upload : List ℕ) → Type 0
CutsOfSecond false entries upload = CutsOfExport entries upload
CutsOfSecond true entries upload = CutsOfWhole entries upload

-- What the first bytes of a file's upload are read as: all entries of the file, or none for a header or a file that is
-- cut short. The whole upload is read as the file.
pub record ReadsAllOrNone (entries : List LogEntry) (upload : List ℕ) (cut : ℕ) (r : Reading) : Type 0 where
  pub short : cut < header_length → r ≡ lacks_header cut
  pub body : header_length ≤ cut → (r ≡ reading entries (End 0)) ⊎ IsCutShort r
  pub whole : length upload ≤ cut → r ≡ reading entries (End 0)

-- So every beginning of the upload of a file that reads without a fault is read, under any limits.
abbrev pub CutsOfFile : (file upload : List ℕ) → Type 0
CutsOfFile file upload =
    (limits : Limits) (cut : ℕ) (entries : List LogEntry) (r : Reading) → IsFileReading limits file (reading entries (End 0))
    → Says limits (take cut upload) r → ReadsAllOrNone entries upload cut r
