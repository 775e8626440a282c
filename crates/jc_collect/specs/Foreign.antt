-- Which entry is told to be of another machine's sequence. (own)
use Rattle.std.specs.Prelude.{ℕ, ◌≡◌, List, Option, Some, None, Result, Ok, Err, ⊤}
use Rattle.jc_base.specs.declared.fault.Code.TheVariants.{NotTheOwner as NotTheOwnerCode}
use Rattle.jc_base.specs.declared.id.Id128.{Id128}
use Rattle.jc_base.specs.declared.limits.Limits.{Limits}
use Rattle.jc_base.specs.Fault.{number_of}
use Rattle.jc_base.specs.Reading.{Reading}
use Rattle.jc_keeper.specs.declared.keeper.Absorbed.{Absorbed}
use Rattle.jc_keeper.specs.declared.keeper.Absorbed.TheVariants.{Taken, Conflict, NotTheOwner, Bad}
use Rattle.jc_keeper.specs.declared.keeper.KeepStop.{KeepStop}
use Rattle.jc_keeper.specs.Whose.{HasAt}
use Rattle.jc_upload.specs.declared.answer.Answer.{Answer}
use Rattle.jc_upload.specs.declared.answer.Answer.TheVariants.{Ack, No}
use Rattle.jc_upload.specs.Says.{Says as SaysUpload}

-- If an entry of a body is told to be of another machine's sequence, it is of such a sequence.
abbrev pub TellsForeignIn : (Says : Reading → Type 0) → (Foreign : Id128 → Type 0) → Result Absorbed KeepStop → Type 0
TellsForeignIn Says Foreign (Ok (Taken count new left)) = ⊤
TellsForeignIn Says Foreign (Ok (Conflict number)) = ⊤
TellsForeignIn Says Foreign (Ok (NotTheOwner number)) = (reading : Reading) × Says reading × HasAt Foreign reading number
TellsForeignIn Says Foreign (Ok (Bad fault)) = ⊤
TellsForeignIn Says Foreign (Err stop) = ⊤

-- a reading that an upload may have: any one if its bytes aren't known
abbrev pub MaySay : Limits → (known : Option (List ℕ)) → Reading → Type 0
MaySay limits None reading = ⊤
MaySay limits (Some upload) reading = SaysUpload limits upload reading

-- If 71 is answered, the entry of the upload at its place is of such a sequence.
abbrev pub NamesForeign : Limits → (known : Option (List ℕ)) → (Foreign : Id128 → Type 0) → Answer → Type 0
NamesForeign limits known Foreign (Ack source start count new left) = ⊤
NamesForeign limits known Foreign (No of code place) =
    code ≡ number_of NotTheOwnerCode → (reading : Reading) × MaySay limits known reading × HasAt Foreign reading place
