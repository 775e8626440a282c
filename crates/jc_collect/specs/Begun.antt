-- What reading the header of an upload gives. (own)
use Rattle.std.specs.Prelude.{ℕ, ◌≡◌, ◌<◌, ◌≤◌, List, length, Option, None, Result, Ok, Err, IfSome, ⊤}
use Rattle.std.specs.Io.KnownBytes.{Consumes}
use Rattle.jc_base.specs.Fault.{number_of}
use Rattle.jc_base.specs.Source.{IsFormatCode}
use Rattle.jc_base.specs.declared.fault.Code.TheVariants.{ReadFailed as ReadFailedCode}
use Rattle.jc_upload.specs.declared.answer.Answer.{Answer}
use Rattle.jc_upload.specs.declared.answer.Answer.TheVariants.{No}
use Rattle.jc_upload.specs.declared.head.UploadHead.{UploadHead}
use Rattle.jc_upload.specs.Head.{IsHead, IsHeadFault, head_text, header_length}
use Rattle.jc_collect.specs.declared.head.Unread.{Unread}
use Rattle.jc_collect.specs.declared.head.Unread.TheVariants.{Fault, ReadFailed}

-- This many bytes of an upload have come: all if they are fewer than a header has, and else the first ones.
pub record HasCome (bytes : List ℕ) (came : ℕ) (upload behind : Option (List ℕ)) : Type 0 where
  pub short : came < header_length → IfSome upload (λ all. length all ≡ came)
  pub long : header_length ≤ came → Consumes upload behind bytes

-- The bytes begin with the header, and those after it are left; or their beginning shows a fault. Nothing is said of a
-- failed read.
abbrev pub BeginsUpload : (before behind : Option (List ℕ)) → Result UploadHead Unread → Type 0
BeginsUpload before behind (Ok head) = IsHead head × Consumes before behind (head_text head)
BeginsUpload before behind (Err (Fault fault)) = IsFormatCode fault.code × IfSome before (λ upload. IsHeadFault upload fault)
BeginsUpload before behind (Err ReadFailed) = ⊤

-- the answer to an upload whose header wasn't read
abbrev pub answer_unread : Unread → Answer
answer_unread (Fault fault) = No None (number_of fault.code) fault.place
answer_unread ReadFailed = No None (number_of ReadFailedCode) 0
