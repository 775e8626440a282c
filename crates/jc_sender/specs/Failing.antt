-- Why `upload` and `ack` fail. (own)
use Rattle.std.specs.Prelude.{◌≡◌, ◌⊎◌, ⊤, ℕ, List, Option, IfSome}
use Rattle.jc_base.specs.declared.id.Id128.{Id128}
use Rattle.jc_command_shared.specs.Ids.{IsIdOf, IsIdText}
use Rattle.jc_command_shared.specs.declared.failure.Failure.{Failure}
use Rattle.jc_command_shared.specs.declared.failure.Failure.TheVariants.{Bad, BadAnswer, BadId, BadResume, CannotOpen, OutOfMemory, ReadFailed, SourceChanged, WriteFailed}
use Rattle.jc_upload.specs.Resume.{IsPoint, Point}
use Rattle.jc_sender.specs.Sent.{HasChanged, IsKept, KeepsNone, sender_of}
use Rattle.jc_sender.specs.Source.{HasFault, OfBytes, read_of}
use Rattle.jc_sender.specs.Taken.{HasBadLine}
use Rattle.jc_command_args.specs.declared.request.InputKind.TheVariants.{Export}
use Rattle.jc_command_args.specs.declared.request.Source.{Source}

-- Why nothing is known of a source, by what is told of its two files: its id isn't one, one of them can't be opened or read,
-- the resume file has no resume text, or the source's bytes have a fault.
abbrev pub SourceFailsBy : (told : List ℕ → Option (List ℕ)) → Source → Failure → Type 0
SourceFailsBy told source BadId = ¬ IsIdText source.id.now
SourceFailsBy told source (CannotOpen path) = (path.now ≡ source.resume.now) ⊎ (path.now ≡ source.file.now)
SourceFailsBy told source (Bad fault) = OfBytes (read_of source.kind (told source.file.now)) (λ bytes. HasFault source.kind bytes fault)
SourceFailsBy told source BadResume = KeepsNone (told source.resume.now)
SourceFailsBy told source ReadFailed = ⊤
SourceFailsBy told source WriteFailed = ⊤
SourceFailsBy told source OutOfMemory = ⊤
SourceFailsBy told source _ = ⊥

-- The entries of an export stream no longer go on from the point that its resume file keeps, by what is told of both.
pub record SourceHasChanged (told : List ℕ → Option (List ℕ)) (source : Source) : Type 0 where
  pub stream : source.kind ≡ Export
  pub id : Id128
  pub named : IsIdOf source.id.now id
  pub point : Point
  pub lawful : IsPoint point
  pub kept : IsKept (told source.resume.now) point
  pub changed : IfSome (told source.file.now) (HasChanged (sender_of id point))

-- ... or, for `upload`, that is so.
abbrev pub UploadFailsBy : (told : List ℕ → Option (List ℕ)) → Source → Failure → Type 0
UploadFailsBy told source SourceChanged = SourceHasChanged told source
UploadFailsBy told source failure = SourceFailsBy told source failure

-- ... or, for `ack`, a line of what standard input gives isn't an answer.
abbrev pub AckFailsBy : (told : List ℕ → Option (List ℕ)) → Source → (given : Option (List ℕ)) → Failure → Type 0
AckFailsBy told source given (BadAnswer line) = IfSome given (HasBadLine line)
AckFailsBy told source given failure = SourceFailsBy told source failure
