-- Where the file of a window lies. (own)
use Rattle.std.specs.Prelude.{ℕ, List, ◌∷◌, ◌++◌, decimal}
use Rattle.hex.specs.Hex.{encode_lower}
use Rattle.jc_ledger_files.specs.declared.window_name.WindowName.{WindowName}

-- in the folder of its sequence, which is named by the digits of its id; its own name is the window's number
abbrev pub path_of : (folder : List ℕ) → WindowName → List ℕ
path_of folder name = folder ++ 47 ∷ (encode_lower name.sequence.0 ++ 47 ∷ decimal name.window)
