-- What `upload` prints. (own)
use Rattle.std.specs.Prelude.{◌≡◌, ◌≢◌, ℕ, Bool, true, false, List, length, take, Option, Some, None, IfSome}
use Rattle.std.specs.Io.KnownBytes.{Appends}
use Rattle.jc_base.specs.LogEntry.{LogEntry}
use Rattle.jc_base.specs.Reading.{Reading}
use Rattle.jc_base.specs.declared.id.Id128.{Id128}
use Rattle.jc_command_shared.specs.Ids.{IsIdOf}
use Rattle.jc_upload.specs.Resume.{IsPoint, Point, resume_text}
use Rattle.jc_upload.specs.Upload.{Agrees, Sender, file_upload_of, next_upload2_of, next_upload_of, sent_of}
use Rattle.jc_sender.specs.Source.{OfBytes, ReadsWell, WhyNoSomeEntries, read_of}
use Rattle.jc_sender.specs.declared.resume_file.TheConstants.{TEXT}
use Rattle.jc_sender.specs.Within.{IsGreatest}
use Rattle.jc_command_shared.specs.declared.failure.Failure.{Failure}
use Rattle.jc_command_shared.specs.declared.failure.Failure.TheVariants.{SourceChanged}
use Rattle.jc_command_args.specs.declared.request.InputKind.{InputKind}
use Rattle.jc_command_args.specs.declared.request.InputKind.TheVariants.{Export, File}
use Rattle.jc_command_args.specs.declared.request.Source.{Source}

abbrev pub sender_of : Id128 → Point → Sender
sender_of id point = record { source = id; point = point }

-- the next entries of an export stream, with a header of the second version if the upload is to be whole
abbrev pub stream_upload_of : Sender → (limit : ℕ) → (whole : Bool) → List LogEntry → List ℕ
stream_upload_of sender limit true entries = next_upload2_of sender entries limit true
stream_upload_of sender limit false entries = next_upload_of sender entries limit

-- An upload has the next entries of an export stream, or all the bytes of a journal file, wherever the sender is.
abbrev pub upload_of : InputKind → Sender → (limit : ℕ) → (whole : Bool) → List LogEntry → (bytes : List ℕ) → List ℕ
upload_of Export sender limit whole entries bytes = stream_upload_of sender limit whole entries
upload_of File sender limit whole entries bytes = file_upload_of sender.source bytes

-- How many of the next entries of an export stream an upload has: those up to the limit, if as many remain, or, if its
-- bytes are bounded, the greatest number of these with which all of it has at most so many, and at least one.
abbrev pub IsCount : Sender → (limit : ℕ) → (most : Option ℕ) → (whole : Bool) → List LogEntry → (count : ℕ) → Type 0
IsCount sender limit None whole entries count = count ≡ limit
IsCount sender limit (Some most) whole entries count =
    IsGreatest most (length (sent_of sender entries limit)) (λ n. length (stream_upload_of sender n whole entries)) count

-- The upload of a source with these bytes, which have no fault; an export stream still agrees with the resume point. Of
-- such a stream the upload has the next entries up to the limit; if its bytes are bounded, those of them that fit, and one
-- in any case.
pub record MakesUpload (kind : InputKind) (sender : Sender) (limit : ℕ) (most : Option ℕ) (whole : Bool) (bytes upload : List ℕ) : Type 0 where
  pub reading : Reading
  pub well : ReadsWell kind bytes reading
  pub agrees : kind ≡ Export → Agrees sender.point reading.entries
  pub count : ℕ
  pub counted : kind ≡ Export → IsCount sender limit most whole reading.entries count
  pub made : upload ≡ upload_of kind sender count whole reading.entries bytes

-- The output gained that upload.
pub record PrintsUpload (kind : InputKind) (sender : Sender) (limit : ℕ) (most : Option ℕ) (whole : Bool) (bytes : List ℕ) (old new : Option (List ℕ)) : Type 0 where
  pub upload : List ℕ
  pub makes : MakesUpload kind sender limit most whole bytes upload
  pub printed : Appends old new upload

-- The bytes have no fault, and they no longer go on from the resume point.
pub record HasChanged (sender : Sender) (bytes : List ℕ) : Type 0 where
  pub reading : Reading
  pub well : ReadsWell Export bytes reading
  pub differs : ¬ Agrees sender.point reading.entries

-- Why there is no next upload of a source: nothing is read of it, or its bytes, if they are known, have changed.
abbrev pub WhyNoUpload : InputKind → Sender → (known : Option (List ℕ)) → Failure → Type 0
WhyNoUpload kind sender known SourceChanged = (kind ≡ Export) × IfSome known (HasChanged sender)
WhyNoUpload kind sender known failure = WhyNoSomeEntries kind known failure

-- This is the point that a resume file keeps, by what is told of it. Of a file that isn't there nothing is told.
abbrev pub IsKept : (told : Option (List ℕ)) → Point → Type 0
IsKept told point = IfSome told (λ text. take TEXT text ≡ resume_text point)

-- It keeps none, by what is told of it.
abbrev pub KeepsNone : (told : Option (List ℕ)) → Type 0
KeepsNone told = IfSome told (λ text. (point : Point) → IsPoint point → take TEXT text ≢ resume_text point)

-- The output gained the upload of the source that the command line names, by what is told of its files, or for some bytes
-- of them.
pub record PrintsSomeUpload (told : List ℕ → Option (List ℕ)) (source : Source) (limit : ℕ) (most : Option ℕ) (whole : Bool) (old new : Option (List ℕ)) : Type 0 where
  pub id : Id128
  pub named : IsIdOf source.id.now id
  pub point : Point
  pub lawful : IsPoint point
  pub kept : IsKept (told source.resume.now) point
  pub printed : OfBytes (read_of source.kind (told source.file.now))
      (λ bytes. PrintsUpload source.kind (sender_of id point) limit most whole bytes old new)
