-- What the bytes of a file say.
use Rattle.std.specs.Prelude.{◌≡◌, ℕ, List, Result, Ok, Err, ⊤}
use Rattle.jc_base.specs.Reading.{Reading}
use Rattle.jc_base.specs.declared.fault.Ending.{Ending}
use Rattle.jc_base.specs.declared.fault.Ending.TheVariants.{End, Bad}
use Rattle.jc_base.specs.declared.limits.Limits.{Limits}
use Rattle.jc_base.specs.declared.source.Step.{Step}
use Rattle.jc_base.specs.declared.source.Step.TheVariants.{Entry, End as Ended, Bad as Faulty}
use Rattle.jc_base.specs.declared.source.Stop.{Stop}
use Rattle.jc_export.specs.Stream.{IsOnlyReading, StreamReading}
use Rattle.jc_file.specs.FileFault.{IsFileCode}
use Rattle.jc_file.specs.FileReading.{IsFileReading}
use Rattle.jc_upload.specs.Excerpt.{IsStreamEnding}
use Rattle.jc_command_args.specs.declared.request.InputKind.{InputKind}
use Rattle.jc_command_args.specs.declared.request.InputKind.TheVariants.{Export, File}

-- the bytes' one reading, as an export stream or as a journal file
abbrev pub ReadsAs : InputKind → Limits → List ℕ → Reading → Type 0
ReadsAs Export limits bytes reading = StreamReading limits 0 bytes reading × IsOnlyReading limits 0 bytes reading
ReadsAs File limits bytes reading =
    IsFileReading limits bytes reading × ((other : Reading) → IsFileReading limits bytes other → other ≡ reading)

-- How a reading of that kind ends, whether its bytes are known or not: a stream may have bytes left, and its fault is one
-- of a stream; a file has none left, and its fault is one of a file.
abbrev pub EndsAs : InputKind → Limits → Ending → Type 0
EndsAs Export limits ending = IsStreamEnding limits ending
EndsAs File limits (End left) = left ≡ 0
EndsAs File limits (Bad fault) = IsFileCode fault.code

-- An answer of a source is no end, or one of that kind.
abbrev pub StepsAs : InputKind → Limits → Result Step Stop → Type 0
StepsAs kind limits (Ok (Entry e)) = ⊤
StepsAs kind limits (Ok (Ended left)) = EndsAs kind limits (End left)
StepsAs kind limits (Ok (Faulty fault)) = EndsAs kind limits (Bad fault)
StepsAs kind limits (Err stop) = ⊤
