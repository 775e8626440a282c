-- Lines of words. (own)
use Rattle.std.specs.Prelude.{ℕ, List, [], ◌∷◌, ◌++◌, codes, decimal, Option, Some, None}
use Rattle.hex.specs.Hex.{encode_lower}
use Rattle.jc_base.specs.declared.id.Id128.{Id128}

-- These words, with one space between two of them, and a newline at the end.
abbrev pub line_of : List (List ℕ) → List ℕ
line_of [] = 10 ∷ []
line_of (w ∷ []) = w ++ 10 ∷ []
line_of (w ∷ ws) = w ++ 32 ∷ line_of ws

-- An id as lower-case hexadecimal digits and a number as a plain decimal; a dash for each if there is none.
abbrev pub pair_words : Option (Id128 × ℕ) → List (List ℕ)
pair_words (Some pair) = encode_lower pair.0.0 ∷ decimal pair.1 ∷ []
pair_words None = codes "-" ∷ codes "-" ∷ []

-- these two words within a line, with a space between them and this byte after them
abbrev pub pair_text : Option (Id128 × ℕ) → ℕ → List ℕ
pair_text (Some pair) end = encode_lower pair.0.0 ++ 32 ∷ (decimal pair.1 ++ end ∷ [])
pair_text None end = 45 ∷ 32 ∷ 45 ∷ end ∷ []
