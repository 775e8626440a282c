-- The objects of what a command found, and of the table of codes.
use Rattle.std.specs.Prelude.{◌≡◌, ◌⊎◌, ◌++◌, ◌∷◌, ◌+◌, ℕ, List, [], Option, Some, None, codes, decimal}
use Rattle.hex.specs.Hex.{encode_lower}
use Rattle.json.specs.Print.{quoted}
use Rattle.jc_base.specs.declared.id.Key.{Key}
use Rattle.jc_codes.specs.Rows.{IsRow}
use Rattle.jc_codes.specs.declared.table.Coded.{Coded}
use Rattle.jc_command_shared.specs.declared.found.Found.{Found}
use Rattle.jc_command_shared.specs.declared.found.Found.TheVariants.{Bad, Count, Upload as OfUpload}
use Rattle.jc_command_shared.specs.declared.found.Upload.{Upload}

-- the object of a count, with how many are left if that is said
abbrev pub count_object : (entries : ℕ) (left : Option ℕ) → List ℕ
count_object entries None = codes "{\"result\":\"ok\",\"entries\":" ++ (decimal entries ++ codes "}")
count_object entries (Some left) = codes "{\"result\":\"ok\",\"entries\":" ++ (decimal entries ++ (codes ",\"left\":" ++ (decimal left ++ codes "}")))

-- The object of a fault, with what the table says of its code, or its line if the table lacks that.
abbrev pub IsFault : (table : List ℕ) (code place : ℕ) (object : List ℕ) → Type 0
IsFault table code place object =
    ((row : Coded) × IsRow code table row × (object ≡ codes "{\"result\":\"bad\",\"code\":" ++ (decimal code ++ (codes ",\"name\":\"" ++ (row.name.now
    ++ (codes "\",\"meaning\":" ++ (quoted row.meaning.now ++ (codes ",\"place\":" ++ (decimal place ++ codes "}")))))))))
    ⊎ (((row : Coded) → ¬ IsRow code table row) × (object ≡ codes "bad " ++ (decimal code ++ (codes " " ++ decimal place))))

-- what the object of an upload ends with: the id and the number of its last entry, and its windows
abbrev pub end_text : Option Key → (windows : ℕ) → List ℕ
end_text None windows = codes "\"id\":null,\"number\":null,\"windows\":" ++ decimal windows
end_text (Some key) windows =
    codes "\"id\":\"" ++ (encode_lower key.seqnum_id.0 ++ (codes "\",\"number\":" ++ (decimal key.seqnum
    ++ (codes ",\"windows\":" ++ decimal windows))))

abbrev pub upload_object : Upload → List ℕ
upload_object upload =
    codes "{\"result\":\"upload\",\"source\":\"" ++ (encode_lower upload.source.0 ++ (codes "\",\"start\":" ++ (decimal upload.start
    ++ (codes ",\"entries\":" ++ (decimal upload.entries ++ (codes ",\"left\":" ++ (decimal upload.left ++ (codes ","
    ++ (end_text upload.last upload.windows ++ codes "}")))))))))

-- The object of what was found, in the words of the table of codes.
abbrev pub IsObject : (table : List ℕ) → Found → (object : List ℕ) → Type 0
IsObject table (Count entries left) object = object ≡ count_object entries left
IsObject table (Bad code place) object = IsFault table code place object
IsObject table (OfUpload upload) object = object ≡ upload_object upload

-- The object of a code, with what the table says of it.
abbrev pub IsCode : (table : List ℕ) (code : ℕ) (object : List ℕ) → Type 0
IsCode table code object = (row : Coded) × IsRow code table row
    × (object ≡ codes "{\"code\":" ++ (decimal code ++ (codes ",\"name\":\"" ++ (row.name.now ++ (codes "\",\"meaning\":" ++ (quoted row.meaning.now
    ++ (codes ",\"advice\":" ++ (quoted row.advice.now ++ codes "}"))))))))

-- The line of a code, which has its object, or nothing if the table lacks the code.
abbrev pub IsLineOf : (table : List ℕ) (code : ℕ) (line : List ℕ) → Type 0
IsLineOf table code line =
    ((object : List ℕ) × IsCode table code object × (line ≡ object ++ 10 ∷ []))
    ⊎ (((row : Coded) → ¬ IsRow code table row) × (line ≡ []))

-- The lines of all codes below a number, in their order.
pub data AreLinesBelow (table : List ℕ) : (count : ℕ) (lines : List ℕ) → Type 0 where
  none : AreLinesBelow table 0 []
  more : (code : ℕ) (before line : List ℕ) → AreLinesBelow table code before → IsLineOf table code line → AreLinesBelow table (code + 1) (before ++ line)
