-- The ids that a command line spells. (own)
use Rattle.std.specs.Prelude.{◌≡◌, ℕ, List, length, Ok}
use Rattle.std.specs.List.{AllPass}
use Rattle.hex.specs.Hex.{decode_of, is_hex_digit}
use Rattle.jc_base.specs.declared.id.Id128.{Id128}

-- the text is 32 hexadecimal digits
abbrev pub IsIdText : List ℕ → Type 0
IsIdText text = (length text ≡ 32) × AllPass is_hex_digit text

-- they spell this id
abbrev pub IsIdOf : List ℕ → Id128 → Type 0
IsIdOf text id = IsIdText text × (decode_of text ≡ Ok id.0)
