-- What the file of a window says. (own)
use Rattle.std.specs.Prelude.{◌≡◌, ℕ, List, Option, IfSome}
use Rattle.std.specs.List.{All}
use Rattle.jc_ledger.specs.declared.digest.EntryDigest.{EntryDigest}
use Rattle.jc_ledger_files.specs.Blocks.{HasNotes, IsNote}
use Rattle.jc_ledger_files.specs.Noted.{noted}
use Rattle.jc_ledger_files.specs.declared.window_note.WindowNote.{WindowNote}
use Rattle.jc_sequences.specs.Placed.{path_of}
use Rattle.jc_notes.specs.declared.noted.NotesRead.{NotesRead}

-- These are the notes of a file, or none where there is no file: those that this says, where it is known what is found there.
pub record AreRead (found : Option (List ℕ)) (notes : List WindowNote) : Type 0 where
  pub known : IfSome found (λ file. HasNotes file notes)
  pub are : All IsNote notes

-- The digest is that of a number's last note in a file, if it has one.
pub record IsNotedIn (found : Option (List ℕ)) (number : ℕ) (digest : Option EntryDigest) : Type 0 where
  pub notes : List WindowNote
  pub read : AreRead found notes
  pub last : digest ≡ noted notes number

-- If notes were read, they are those of their window's file in a folder.
abbrev pub KeepsRead : (found : List ℕ → Option (List ℕ)) → (folder : List ℕ) → NotesRead → Type 0
KeepsRead found folder kept = IfSome kept.window (λ name. AreRead (found (path_of folder name)) kept.notes.items)
