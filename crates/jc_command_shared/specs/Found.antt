-- What a command found, and the line that says so. (own)
use Rattle.std.specs.Prelude.{◌≡◌, ℕ, List, [], ◌∷◌, ◌++◌, Option, Some, None, codes, decimal}
use Rattle.std.specs.Io.KnownBytes.{Appends}
use Rattle.hex.specs.Hex.{encode_lower}
use Rattle.jc_base.specs.Fault.{number_of}
use Rattle.jc_base.specs.declared.fault.Ending.{Ending}
use Rattle.jc_base.specs.declared.fault.Ending.TheVariants as ending
use Rattle.jc_base.specs.declared.id.Key.{Key}
use Rattle.jc_command_shared.specs.declared.found.Found.{Found}
use Rattle.jc_command_shared.specs.declared.found.Found.TheVariants.{Bad, Count, Upload as OfUpload}
use Rattle.jc_command_shared.specs.declared.found.Upload.{Upload}
use Rattle.jc_command_shared.specs.declared.status.Status.{Status}
use Rattle.jc_command_shared.specs.declared.status.Status.TheVariants.{Refused, Success}

-- `<id> <number>`, or `- -` if there is no key
abbrev pub last_text : Option Key → List ℕ
last_text None = codes "- -"
last_text (Some key) = encode_lower key.seqnum_id.0 ++ codes " " ++ decimal key.seqnum

-- `upload <source> <start> <entries> <left> <id> <number> <windows>`
abbrev pub upload_text : Upload → List ℕ
upload_text upload =
    codes "upload " ++ (encode_lower upload.source.0 ++ (codes " " ++ (decimal upload.start ++ (codes " " ++ (decimal upload.entries
    ++ (codes " " ++ (decimal upload.left ++ (codes " " ++ (last_text upload.last ++ (codes " " ++ decimal upload.windows))))))))))

-- the line, without its newline
abbrev pub found_text : Found → List ℕ
found_text (Count entries None) = codes "ok " ++ decimal entries
found_text (Count entries (Some left)) = codes "ok " ++ decimal entries ++ codes " " ++ decimal left
found_text (Bad code place) = codes "bad " ++ decimal code ++ codes " " ++ decimal place
found_text (OfUpload upload) = upload_text upload

abbrev pub found_status : Found → Status
found_status (Count entries left) = Success
found_status (Bad code place) = Refused
found_status (OfUpload upload) = Success

-- what a reading of so many entries finds
abbrev pub reading_found : (entries : ℕ) → Ending → Found
reading_found entries (ending.End left) = Count entries (Some left)
reading_found entries (ending.Bad fault) = Bad (number_of fault.code) fault.place

-- The output gained the line, and the status is its own.
pub record PrintsFound (found : Found) (status : Status) (old new : Option (List ℕ)) : Type 0 where
  pub judged : status ≡ found_status found
  pub printed : Appends old new (found_text found ++ 10 ∷ [])
