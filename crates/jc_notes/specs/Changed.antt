-- What commands over notes change. (own)
use Rattle.std.specs.Prelude.{◌≡◌, ◌⊎◌, ◌≤◌, ◌<◌, ℕ, List, [], ◌∷◌, ◌++◌, Option, Some, length, take}
use Rattle.jc_command_shared.specs.Deeds.{Deed, beside, changes, puts}
use Rattle.jc_ledger_files.specs.Blocks.{blocks}
use Rattle.jc_ledger_files.specs.declared.window_note.WindowNote.{WindowNote}
use Rattle.jc_sequences.specs.Placed.{path_of}
use Rattle.jc_notes.specs.Found.{AreRead}
use Rattle.jc_notes.specs.declared.lines.Front.{Front}

-- one in the folder, however deep
abbrev pub IsInFolder : (folder path : List ℕ) → Type 0
IsInFolder folder path = (name : List ℕ) × (path ≡ folder ++ 47 ∷ name)

-- A file that has these notes alone is made beside the one at this path, and takes its place.
abbrev pub replacing : (at : List ℕ) → List WindowNote → List Deed
replacing at notes = changes (beside at) ∷ puts (beside at) at (Some (blocks notes ++ 0 ∷ [])) ∷ []

-- A window that has more notes than are named keeps the first of them alone. Another stays as it is. Nothing is printed.
pub record IsKeptFront (found : List ℕ → Option (List ℕ)) (folder : List ℕ) (front : Front) (text : List ℕ) (deeds : List Deed) : Type 0 where
  pub notes : List WindowNote
  pub read : AreRead (found (path_of folder front.window)) notes
  pub done : ((length notes ≤ front.count) × (deeds ≡ []))
      ⊎ ((front.count < length notes) × (deeds ≡ replacing (path_of folder front.window) (take front.count notes)))
  pub silent : text ≡ []
