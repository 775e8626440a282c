-- What `notes` and `owners` do with the notes in a folder, and why they fail. (own)
use Rattle.std.specs.Prelude.{◌≡◌, ◌≢◌, ◌⊎◌, ⊤, ℕ, List, Option, None, IfSome}
use Rattle.std.specs.Io.KnownBytes.{Keeps}
use Rattle.std.specs.List.{AllPairs}
use Rattle.jc_command_args.specs.declared.request.NotesTask.{NotesTask}
use Rattle.jc_command_args.specs.declared.request.NotesTask.TheVariants.{Has, ForgetAfter, Verify}
use Rattle.jc_command_shared.specs.Deeds.{ChangesOnly, Deed}
use Rattle.jc_command_shared.specs.Ids.{IsIdText}
use Rattle.jc_command_shared.specs.declared.failure.Failure.{Failure}
use Rattle.jc_command_shared.specs.declared.failure.Failure.TheVariants.{BadId, BadLine, CannotOpen, OutOfMemory, ReadFailed, WriteFailed}
use Rattle.jc_command_shared.specs.declared.status.Status.{Status}
use Rattle.jc_command_shared.specs.declared.status.Status.TheVariants.{Success}
use Rattle.jc_ledger.specs.Owners.{machine_named}
use Rattle.jc_ledger_files.specs.Owned.{owner_window}
use Rattle.jc_ledger_files.specs.declared.window_name.WindowName.{WindowName}
use Rattle.jc_notes.specs.Changed.{IsInFolder, IsKeptFront}
use Rattle.jc_notes.specs.Each.{GivesUp, MayWork, PrintsEach, Works, WorksEach}
use Rattle.jc_notes.specs.Lines.{IsFirstBad, IsFirstBadFront, OfFronts, OfLines, key_at}
use Rattle.jc_notes.specs.Printed.{IsListedIf, IsNotedTold, IsRelease, IsRenamingIf, IsSummedIf, OfSequence}
use Rattle.jc_sequences.specs.Placed.{path_of}

-- Of some windows, each of which comes once, this is so. Which have files no clause says.
abbrev pub OfWindows : (Does : List WindowName → Type 0) → Type 0
OfWindows Does = (windows : List WindowName) × AllPairs (λ (one other : WindowName). one ≢ other) windows × Does windows

-- What is done over what is found of the folder's files.
module _ (found : List ℕ → Option (List ℕ)) (folder : List ℕ) where
  -- By `has` it is said of each key that standard input asks for whether it is noted. By `forget-after` each window that it
  -- names keeps its first notes, and nothing is printed. By `verify` the notes of some windows are summed.
  abbrev pub WorksOnNotes : NotesTask → (given old new : Option (List ℕ)) → (deeds deeds_now : Option (List Deed)) → Status → Type 0
  WorksOnNotes Has given old new deeds deeds_now status =
      (status ≡ Success) × IfSome given (OfLines key_at (λ keys. PrintsEach (IsNotedTold found folder) keys Success old new))
  WorksOnNotes ForgetAfter given old new deeds deeds_now status =
      (status ≡ Success)
      × (Keeps old new × IfSome given (OfFronts (λ fronts. WorksEach (IsKeptFront found folder) fronts None None deeds deeds_now)))
  WorksOnNotes Verify given old new deeds deeds_now status =
      OfWindows (λ windows. PrintsEach (λ name. IsSummedIf (found (path_of folder name)) name) windows status old new)

  -- Of some windows it is said whose their sequences are.
  abbrev pub ListsOwners : (old new : Option (List ℕ)) → Status → Type 0
  ListsOwners old new status = OfWindows (λ windows. PrintsEach (IsListedIf found folder) windows status old new)

  -- Of some windows the sequences that were the first machine's are the other one's now.
  abbrev pub RenamesOwner : (name other : List ℕ) → (old new : Option (List ℕ)) → (deeds deeds_now : Option (List Deed)) → Type 0
  RenamesOwner name other old new deeds deeds_now =
      OfWindows (λ windows. WorksEach (IsRenamingIf found folder (machine_named name) (machine_named other)) windows old new deeds deeds_now)

  -- The sequence with these digits is nobody's now.
  abbrev pub ReleasesSequence : (digits : List ℕ) → (old new : Option (List ℕ)) → (deeds deeds_now : Option (List Deed)) → Type 0
  ReleasesSequence digits old new deeds deeds_now = OfSequence digits (λ s. Works (IsRelease found folder s) old new deeds deeds_now)

  -- ---- what is done to files, whether all is done or a failure comes before

  -- By `forget-after` no file changes but those in the folder: the first of the windows that are named keep their first notes,
  -- or nothing changes. By the other two none does.
  abbrev pub ChangesNotes : NotesTask → (given : Option (List ℕ)) → (old new : Option (List Deed)) → Type 0
  ChangesNotes ForgetAfter given old new =
      ChangesOnly (IsInFolder folder) old new
      × ((new ≡ old) ⊎ IfSome given (OfFronts
      (λ fronts. GivesUp (IsKeptFront found folder) (λ front. path_of folder front.window) fronts old new)))
  ChangesNotes task given old new = new ≡ old

  -- The sequences of the first of some windows have the other owner then.
  abbrev pub ChangesOwners : (name other : List ℕ) → (old new : Option (List Deed)) → Type 0
  ChangesOwners name other old new =
      ChangesOnly (IsInFolder folder) old new
      × OfWindows (λ windows. GivesUp (IsRenamingIf found folder (machine_named name) (machine_named other)) (path_of folder) windows old new)

  -- Nothing changes, or the file of the sequence's owner stays, or the sequence is released.
  abbrev pub ChangesSequence : (digits : List ℕ) → (old new : Option (List Deed)) → Type 0
  ChangesSequence digits old new =
      ChangesOnly (IsInFolder folder) old new
      × ((new ≡ old) ⊎ OfSequence digits (λ s. MayWork (IsRelease found folder s) (path_of folder (owner_window s)) old new))

-- ---- why nothing is done

-- The folder can't be opened, or a device or memory fails.
abbrev pub FolderFailsBy : (folder : List ℕ) → Failure → Type 0
FolderFailsBy folder (CannotOpen path) = path.now ≡ folder
FolderFailsBy folder ReadFailed = ⊤
FolderFailsBy folder WriteFailed = ⊤
FolderFailsBy folder OutOfMemory = ⊤
FolderFailsBy folder _ = ⊥

-- Of the lines that standard input gives this is the first that isn't one which is read.
abbrev pub HasBadLine : NotesTask → (given : Option (List ℕ)) → (line : ℕ) → Type 0
HasBadLine Has given line = IfSome given (λ text. IsFirstBad key_at text line)
HasBadLine ForgetAfter given line = IfSome given (λ text. IsFirstBadFront text line)
HasBadLine Verify given line = ⊥

-- ... or that is so
abbrev pub NotesFailBy : (folder : List ℕ) → NotesTask → (given : Option (List ℕ)) → Failure → Type 0
NotesFailBy folder task given (BadLine line) = HasBadLine task given line
NotesFailBy folder task given failure = FolderFailsBy folder failure

-- ... or what is to be released is no id
abbrev pub ReleaseFailsBy : (folder digits : List ℕ) → Failure → Type 0
ReleaseFailsBy folder digits BadId = ¬ IsIdText digits
ReleaseFailsBy folder digits failure = FolderFailsBy folder failure
