-- The lines of `notes` and `owners`, each with its newline. (own)
use Rattle.std.specs.Prelude.{ℕ, List, [], ◌∷◌, ◌++◌, Bool, Option, Some, None, if◌then◌else◌, codes, decimal, length}
use Rattle.hex.specs.Hex.{encode_lower}
use Rattle.sha2.specs.Sha256.{sha256}
use Rattle.jc_base.specs.declared.id.Id128.{Id128}
use Rattle.jc_ledger.specs.declared.owner.MachineDigest.{MachineDigest}
use Rattle.jc_ledger_files.specs.Blocks.{blocks}
use Rattle.jc_ledger_files.specs.declared.window_name.WindowName.{WindowName}
use Rattle.jc_ledger_files.specs.declared.window_note.WindowNote.{WindowNote}

abbrev pub name_text : WindowName → List ℕ
name_text name = encode_lower name.sequence.0 ++ 32 ∷ decimal name.window

-- how many notes a window has, and the sum of their blocks
abbrev pub window_line : WindowName → List WindowNote → List ℕ
window_line name notes = name_text name ++ 32 ∷ (decimal (length notes) ++ 32 ∷ (encode_lower (sha256 (blocks notes)) ++ 10 ∷ []))

-- that they can't be read
abbrev pub bad_line : WindowName → List ℕ
bad_line name = codes "bad " ++ (name_text name ++ 10 ∷ [])

-- whose a sequence is
abbrev pub owner_line : Id128 → MachineDigest → List ℕ
owner_line sequence machine = encode_lower sequence.0 ++ 32 ∷ (encode_lower machine.0 ++ 10 ∷ [])

-- ... if it is a machine's
abbrev pub owner_text : Id128 → Option MachineDigest → List ℕ
owner_text sequence None = []
owner_text sequence (Some machine) = owner_line sequence machine

-- that it was a machine's, and is nobody's now
abbrev pub free_line : Id128 → List ℕ
free_line sequence = encode_lower sequence.0 ++ (codes " -" ++ 10 ∷ [])

-- whether a key is noted
abbrev pub noted_line : Bool → List ℕ
noted_line is_noted = if is_noted then codes "noted" ++ 10 ∷ [] else codes "lacking" ++ 10 ∷ []
