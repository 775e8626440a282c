-- What taking up the body of an upload does to a journal, and what is answered. (own)
use Rattle.std.specs.Prelude.{ℕ, ◌≡◌, List, Option, Some, None, Result, Ok, Err, ⊤}
use Rattle.jc_base.specs.declared.fault.Code.TheVariants.{Conflict as ConflictCode, NotTheOwner as NotTheOwnerCode}
use Rattle.jc_base.specs.declared.limits.Limits.{Limits}
use Rattle.jc_base.specs.Fault.{number_of}
use Rattle.jc_base.specs.Reading.{Reading}
use Rattle.jc_base.specs.Journal.{Journal}
use Rattle.jc_keeper.specs.declared.keeper.Absorbed.{Absorbed}
use Rattle.jc_keeper.specs.declared.keeper.Absorbed.TheVariants.{Taken, Conflict, NotTheOwner, Bad}
use Rattle.jc_keeper.specs.declared.keeper.KeepStop.{KeepStop}
use Rattle.jc_keeper.specs.Absorb.{Step}
use Rattle.jc_keeper.specs.Keeping.{code_of_stop}
use Rattle.jc_upload.specs.declared.answer.Answer.{Answer}
use Rattle.jc_upload.specs.declared.answer.Answer.TheVariants.{Ack, No}
use Rattle.jc_upload.specs.declared.head.Kind.{Kind}
use Rattle.jc_upload.specs.declared.head.UploadHead.{UploadHead}
use Rattle.jc_upload.specs.declared.head.Version.{Version}
use Rattle.jc_collect.specs.Answer.{named_by}
use Rattle.jc_upload.specs.Says.{BodySays}

-- a reading that the body may have: any one if its bytes aren't known
abbrev pub SaysBody : Limits → Version → Kind → (body : Option (List ℕ)) → Reading → Type 0
SaysBody limits version kind None reading = ⊤
SaysBody limits version kind (Some body) reading = BodySays limits version kind body reading

-- a reading that a source may give: any one if its own isn't known
abbrev pub MayGive : Option Reading → Reading → Type 0
MayGive None reading = ⊤
MayGive (Some known) reading = reading ≡ known

-- What became of a body is a step over a reading that it has. If the keeper stopped, the journal stays.
abbrev pub AbsorbsBody : (Says : Reading → Type 0) → (before : Journal) → Result Absorbed KeepStop → (after : Journal) → Type 0
AbsorbsBody Says before (Err stop) after = after ≡ before
AbsorbsBody Says before (Ok absorbed) after = (reading : Reading) × Says reading × Step before reading absorbed after

-- the answer to an upload with this header, by what became of its body
abbrev pub answer_to : UploadHead → Result Absorbed KeepStop → Answer
answer_to head (Ok (Taken count new left)) = Ack head.source head.start count new left
answer_to head (Ok (Conflict number)) = No (Some (named_by head)) (number_of ConflictCode) number
answer_to head (Ok (NotTheOwner number)) = No (Some (named_by head)) (number_of NotTheOwnerCode) number
answer_to head (Ok (Bad fault)) = No (Some (named_by head)) (number_of fault.code) fault.place
answer_to head (Err stop) = No (Some (named_by head)) (number_of (code_of_stop stop)) 0
