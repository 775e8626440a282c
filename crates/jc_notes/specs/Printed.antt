-- What commands over notes print. (own)
use Rattle.std.specs.Prelude.{◌≡◌, ◌≢◌, ◌⊎◌, ◌/◌, ◌^◌, ℕ, List, [], ◌∷◌, Bool, true, false, Option, Some, None, is_some}
use Rattle.std.specs.Io.KnownBytes.{Appends}
use Rattle.std.specs.List.{All}
use Rattle.jc_base.specs.declared.id.Id128.{Id128}
use Rattle.jc_base.specs.declared.id.Key.{Key}
use Rattle.jc_command_shared.specs.Deeds.{Deed}
use Rattle.jc_command_shared.specs.Ids.{IsIdOf}
use Rattle.jc_ledger.specs.declared.digest.EntryDigest.{EntryDigest}
use Rattle.jc_ledger.specs.declared.owner.MachineDigest.{MachineDigest}
use Rattle.jc_ledger_files.specs.Owned.{owner_of, owner_window}
use Rattle.jc_ledger_files.specs.Windows.{window_of}
use Rattle.jc_ledger_files.specs.declared.window_name.WindowName.{WindowName}
use Rattle.jc_ledger_files.specs.declared.window_note.WindowNote.{WindowNote}
use Rattle.jc_sequences.specs.Placed.{path_of}
use Rattle.jc_notes.specs.Changed.{replacing}
use Rattle.jc_notes.specs.Found.{AreRead, IsNotedIn}
use Rattle.jc_notes.specs.Texts.{bad_line, free_line, noted_line, owner_line, owner_text, window_line}

-- Some text was printed that is such a one.
pub record Prints (Is : List ℕ → Type 0) (old new : Option (List ℕ)) : Type 0 where
  pub text : List ℕ
  pub is : Is text
  pub printed : Appends old new text

-- a note's number is one of this window's
abbrev pub IsOf : WindowName → WindowNote → Type 0
IsOf name note = note.number / 4096 ≡ name.window

-- The text sums the notes that a window's file has, each of which is of the window.
pub record IsSummed (found : Option (List ℕ)) (name : WindowName) (text : List ℕ) : Type 0 where
  pub notes : List WindowNote
  pub read : AreRead found notes
  pub own : All (IsOf name) notes
  pub line : text ≡ window_line name notes

-- ... if they could be read and are of the window
abbrev pub IsSummedIf : (found : Option (List ℕ)) → WindowName → Bool → List ℕ → Type 0
IsSummedIf found name true text = IsSummed found name text
IsSummedIf found name false text = text ≡ bad_line name

-- The text says whose a sequence is by the notes that its owner's window has. It is empty if it is nobody's.
pub record IsOwnerTold (found : Option (List ℕ)) (name : WindowName) (text : List ℕ) : Type 0 where
  pub notes : List WindowNote
  pub read : AreRead found notes
  pub line : text ≡ owner_text name.sequence (owner_of notes)

abbrev pub IsOwnerToldIf : (found : Option (List ℕ)) → WindowName → Bool → List ℕ → Type 0
IsOwnerToldIf found name true text = IsOwnerTold found name text
IsOwnerToldIf found name false text = text ≡ bad_line name

-- Of a window in which an owner is noted the text says so. Of another it is empty, and all is well.
abbrev pub IsListedIf : (found : List ℕ → Option (List ℕ)) (folder : List ℕ) → WindowName → Bool → List ℕ → Type 0
IsListedIf found folder name is_read text =
    ((name.window ≡ 2 ^ 51) × IsOwnerToldIf (found (path_of folder name)) name is_read text)
    ⊎ ((name.window ≢ 2 ^ 51) × ((is_read ≡ true) × (text ≡ [])))

-- The note that a sequence is a machine's.
abbrev pub owner_note : MachineDigest → WindowNote
owner_note machine = record { number = 2 ^ 63; digest = record { 0 = machine.0 } }

-- If the owner by the notes of a window's file is one that is asked for, these notes alone take their place, and the line is
-- printed. Else nothing is done or printed.
pub record IsOwnerChange (found : List ℕ → Option (List ℕ)) (folder : List ℕ) (name : WindowName) (Asked : Option MachineDigest → Type 0) (line : List ℕ) (put : List WindowNote) (text : List ℕ) (deeds : List Deed) : Type 0 where
  pub notes : List WindowNote
  pub read : AreRead (found (path_of folder name)) notes
  pub done : (Asked (owner_of notes) × ((text ≡ line) × (deeds ≡ replacing (path_of folder name) put)))
      ⊎ ((¬ Asked (owner_of notes)) × ((text ≡ []) × (deeds ≡ [])))

-- If a sequence was the first machine's, it is the other one's now, and the text says so.
abbrev pub IsRenaming : (found : List ℕ → Option (List ℕ)) (folder : List ℕ) (old new : MachineDigest) → WindowName → (text : List ℕ) → List Deed → Type 0
IsRenaming found folder old new name text deeds =
    IsOwnerChange found folder name (λ owner. owner ≡ Some old) (owner_line name.sequence new) (owner_note new ∷ []) text deeds

-- Of a window in which an owner is noted this is so. Of another nothing is done or printed.
abbrev pub IsRenamingIf : (found : List ℕ → Option (List ℕ)) (folder : List ℕ) (old new : MachineDigest) → WindowName → (text : List ℕ) → List Deed → Type 0
IsRenamingIf found folder old new name text deeds =
    ((name.window ≡ 2 ^ 51) × IsRenaming found folder old new name text deeds)
    ⊎ ((name.window ≢ 2 ^ 51) × ((text ≡ []) × (deeds ≡ [])))

-- If a sequence was a machine's, it is nobody's now, and the text says so.
abbrev pub IsRelease : (found : List ℕ → Option (List ℕ)) (folder : List ℕ) → Id128 → (text : List ℕ) → List Deed → Type 0
IsRelease found folder sequence text deeds =
    IsOwnerChange found folder (owner_window sequence) (λ owner. owner ≢ None) (free_line sequence) [] text deeds

-- The digits spell a sequence that this is so of.
pub record OfSequence (digits : List ℕ) (Does : Id128 → Type 0) : Type 0 where
  pub sequence : Id128
  pub spelled : IsIdOf digits sequence
  pub does : Does sequence

-- The text says whether a key is noted in the file of its window. That is well, whatever it says.
pub record IsNotedTold (found : List ℕ → Option (List ℕ)) (folder : List ℕ) (key : Key) (is_well : Bool) (text : List ℕ) : Type 0 where
  pub digest : Option EntryDigest
  pub is : IsNotedIn (found (path_of folder (window_of key))) key.seqnum digest
  pub well : is_well ≡ true
  pub line : text ≡ noted_line (is_some digest)
