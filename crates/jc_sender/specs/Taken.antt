-- What `ack` does with lines of answers. (own)
use Rattle.std.specs.Prelude.{◌≡◌, ◌≢◌, ◌⊎◌, ◌+◌, ℕ, List, [], ◌∷◌, ◌++◌, length, map, codes, decimal, Option, IfSome, ⊤}
use Rattle.std.specs.List.{All}
use Rattle.std.specs.Io.KnownBytes.{Appends}
use Rattle.jc_base.specs.Reading.{Reading}
use Rattle.jc_base.specs.declared.id.Id128.{Id128}
use Rattle.jc_command_shared.specs.Deeds.{Deed, LeavesOld, Replaces}
use Rattle.jc_command_shared.specs.Ids.{IsIdOf}
use Rattle.jc_command_shared.specs.Lines.{AreAnswers, lines_of}
use Rattle.jc_upload.specs.Answer.{IsAnswer, answer_text}
use Rattle.jc_upload.specs.Resume.{IsPoint, Point, resume_text}
use Rattle.jc_upload.specs.Upload.{Sender, TakesAnswers}
use Rattle.jc_upload.specs.declared.answer.Answer.{Answer}
use Rattle.jc_sender.specs.Sent.{IsKept, sender_of}
use Rattle.jc_sender.specs.Source.{OfBytes, ReadsWell, WhyNoSomeEntries, read_of}
use Rattle.jc_command_shared.specs.declared.failure.Failure.{Failure}
use Rattle.jc_command_shared.specs.declared.failure.Failure.TheVariants.{BadAnswer, OutOfMemory, ReadFailed}
use Rattle.jc_command_args.specs.declared.request.InputKind.{InputKind}
use Rattle.jc_command_args.specs.declared.request.Source.{Source}

-- The line of this number, from 1, is the first that isn't an answer.
pub record HasBadLine (number : ℕ) (text : List ℕ) : Type 0 where
  pub before : List Answer
  pub each : All IsAnswer before
  pub line : List ℕ
  pub behind : List (List ℕ)
  pub lines : lines_of text ≡ map answer_text before ++ line ∷ behind
  pub none : (answer : Answer) → IsAnswer answer → line ≢ answer_text answer
  pub counted : number ≡ length before + 1

-- Why there are no answers: a line isn't one, or memory was refused.
abbrev pub WhyNoAnswers : (text : List ℕ) → Failure → Type 0
WhyNoAnswers text (BadAnswer line) = HasBadLine line text
WhyNoAnswers text OutOfMemory = ⊤
WhyNoAnswers text _ = ⊥

-- Why there are no answers of a text that may not come.
abbrev pub WhyNoneCame : (given : Option (List ℕ)) → Failure → Type 0
WhyNoneCame given (BadAnswer line) = IfSome given (HasBadLine line)
WhyNoneCame given ReadFailed = ⊤
WhyNoneCame given OutOfMemory = ⊤
WhyNoneCame given _ = ⊥

-- ---- answers

-- These answers move the sender of a source with these bytes, which have no fault, on to another point, or leave it.
pub record MovesSender (kind : InputKind) (sender : Sender) (bytes : List ℕ) (answers : List Answer) (moved : Point) : Type 0 where
  pub reading : Reading
  pub well : ReadsWell kind bytes reading
  pub takes : TakesAnswers reading.entries answers sender (sender_of sender.source moved)

-- These lines of answers move the resume point of such a source on to another, or leave it.
pub record MovesBy (kind : InputKind) (id : Id128) (point : Point) (bytes text : List ℕ) (moved : Point) : Type 0 where
  pub answers : List Answer
  pub are : AreAnswers answers text
  pub moves : MovesSender kind (sender_of id point) bytes answers moved

-- Why no resume point comes of a source's bytes and of what standard input gives.
abbrev pub WhyNoPoint : InputKind → (known given : Option (List ℕ)) → Failure → Type 0
WhyNoPoint kind known given (BadAnswer line) = IfSome given (HasBadLine line)
WhyNoPoint kind known given failure = WhyNoSomeEntries kind known failure

-- the line of a resume point, without its newline
abbrev pub point_line : Point → List ℕ
point_line point = codes "resume " ++ decimal point.position

-- The answers on standard input move the source on to this point, by what is told of its files, or for some bytes of them.
pub record MovesSource (told : List ℕ → Option (List ℕ)) (source : Source) (given : Option (List ℕ)) (moved : Point) : Type 0 where
  pub id : Id128
  pub named : IsIdOf source.id.now id
  pub point : Point
  pub lawful : IsPoint point
  pub kept : IsKept (told source.resume.now) point
  pub text : List ℕ
  pub came : IfSome given (λ held. text ≡ held)
  pub moves : OfBytes (read_of source.kind (told source.file.now)) (λ bytes. MovesBy source.kind id point bytes text moved)

-- The resume file was replaced by one with the text of such a point.
pub record KeepsSomePoint (told : List ℕ → Option (List ℕ)) (source : Source) (given : Option (List ℕ)) (deeds deeds' : Option (List Deed)) : Type 0 where
  pub moved : Point
  pub moves : MovesSource told source given moved
  pub written : Replaces source.resume.now (resume_text moved) deeds deeds'

-- ... and the output gained that point.
pub record PrintsSomePoint (told : List ℕ → Option (List ℕ)) (source : Source) (given : Option (List ℕ)) (old new : Option (List ℕ))
    (deeds deeds' : Option (List Deed)) : Type 0 where
  pub keeps : KeepsSomePoint told source given deeds deeds'
  pub printed : Appends old new (point_line keeps.moved ++ 10 ∷ [])

-- The file at this path stays as it was, or one with the text of a resume point took its place.
abbrev pub MayMoveOn : (resume : List ℕ) → (deeds deeds' : Option (List Deed)) → Type 0
MayMoveOn resume deeds deeds' = LeavesOld resume deeds deeds' ⊎ ((point : Point) × Replaces resume (resume_text point) deeds deeds')
