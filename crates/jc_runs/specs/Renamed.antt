-- What `owners` changes in a folder, as a step. (own)
use Rattle.std.specs.Prelude.{ℕ, ◌≡◌, ◌≢◌, ◌⊎◌, ◌++◌, if◌then◌else◌, List, [], ◌∷◌, Option, Some, None, option_map}
use Rattle.std.specs.List.{Contains}
use Rattle.sqlite.specs.Recovery.{Image}
use Rattle.jc_base.specs.declared.id.Id128.{Id128}
use Rattle.jc_base.specs.Journal.{Journal}
use Rattle.jc_base.specs.LogEntry.{LogEntry}
use Rattle.jc_command.specs.Run.{begins_with}
use Rattle.jc_command_args.specs.declared.request.Tables.{Tables}
use Rattle.jc_command_shared.specs.Deeds.{Deed}
use Rattle.jc_keeper.specs.declared.form.Shape.{Shape}
use Rattle.jc_ledger.specs.declared.owner.MachineDigest.{MachineDigest}
use Rattle.jc_ledger.specs.Owners.{machine_named}
use Rattle.jc_ledger_files.specs.Blocks.{blocks}
use Rattle.jc_ledger_files.specs.Owned.{owner_window}
use Rattle.jc_ledger_files.specs.Windows.{same_window}
use Rattle.jc_ledger_files.specs.declared.window_name.WindowName.{WindowName}
use Rattle.jc_ledger_files.specs.declared.window_note.WindowNote.{WindowNote}
use Rattle.jc_notes.specs.Changed.{replacing}
use Rattle.jc_notes.specs.Printed.{IsRelease, IsRenaming, owner_note}
use Rattle.jc_sequences.specs.Placed.{path_of}
use Rattle.jc_runs.specs.Between.{Between}
use Rattle.jc_runs.specs.Next.{BeganWith}
use Rattle.jc_runs.specs.Steps.{with_owner}

-- In the folder the file of this window is found.
abbrev pub IsFoundIn : (folder : List ℕ) → (found : List ℕ → Option (List ℕ)) → (windows : WindowName → List ℕ) → WindowName → Type 0
IsFoundIn folder found windows w = found (path_of folder w) ≡ Some (windows w)

-- the files of windows once that of one has these notes alone
abbrev pub with_notes : WindowName → List WindowNote → (windows : WindowName → List ℕ) → WindowName → List ℕ
with_notes name notes windows w = if same_window name w then blocks notes ++ 0 ∷ [] else windows w

-- the notes of a sequence that is the machine's with this name, or nobody's
abbrev pub owner_notes : Option (List ℕ) → List WindowNote
owner_notes None = []
owner_notes (Some name) = owner_note (machine_named name) ∷ []

-- What `owners` finds in the window of a sequence's owner is whose it was. If that was asked for, these notes are put there, and
-- the next run begins with what is behind the step. Else nothing is done.
abbrev pub ChangesOwner : (made kind : Tables) (b : Between) (finished aside : Journal) (windows : WindowName → List ℕ) (image : Image) (came : List LogEntry)
    (folder : List ℕ) (s : Id128) (Asked : Option MachineDigest → Type 0) (name : Option (List ℕ)) (done : List Deed) → Type 0
ChangesOwner made kind b finished aside windows image came folder s Asked name done =
    (Asked (b.owner s)
    × ((done ≡ replacing (path_of folder (owner_window s)) (owner_notes name))
    × ((told found : List ℕ → Option (List ℕ)) (deeds : Option (List Deed)) (shape : Shape)
    → BeganWith made kind
    (begins_with image (with_notes (owner_window s) (owner_notes name) windows) finished aside (Contains came) told found deeds shape)
    (with_owner s (option_map machine_named name) b))))
    ⊎ ((¬ Asked (b.owner s)) × (done ≡ []))

-- So `owners` renames a sequence's owner, and releases a sequence, in the folder whose files a run begins with.
abbrev pub OwnersAreChanged : Type 0
OwnersAreChanged =
    (made kind : Tables) (b : Between) (finished aside : Journal) (windows : WindowName → List ℕ) (image : Image) (came : List LogEntry)
    (told found : List ℕ → Option (List ℕ)) (deeds : Option (List Deed)) (shape : Shape) (folder : List ℕ) (s : Id128)
    → BeganWith made kind (begins_with image windows finished aside (Contains came) told found deeds shape) b → IsFoundIn folder found windows (owner_window s)
    → ((old other text : List ℕ) (done : List Deed)
    → IsRenaming found folder (machine_named old) (machine_named other) (owner_window s) text done
    → ChangesOwner made kind b finished aside windows image came folder s (λ owner. owner ≡ Some (machine_named old)) (Some other) done)
    × ((text : List ℕ) (done : List Deed) → IsRelease found folder s text done
    → ChangesOwner made kind b finished aside windows image came folder s (λ owner. owner ≢ None) None done)
