-- What goes of windows of notes, their files or what `notes forget-after` takes away, as steps. (own)
use Rattle.std.specs.Prelude.{ℕ, ◌≡◌, ◌≢◌, ◌⊎◌, ◌++◌, ◌||◌, ◌&&◌, Bool, not, nat_lt, if◌then◌else◌, is_some, List, [], ◌∷◌, Option, None, length, map, take}
use Rattle.std.specs.FinMap.{retain_keys}
use Rattle.std.specs.List.{AllByRecursion, AllPairs, Contains}
use Rattle.sqlite.specs.Recovery.{Image}
use Rattle.jc_base.specs.declared.id.Id128.{Id128}
use Rattle.jc_base.specs.declared.id.Key.{Key}
use Rattle.jc_base.specs.Journal.{Journal}
use Rattle.jc_base.specs.LogEntry.{LogEntry}
use Rattle.jc_command.specs.Run.{begins_with}
use Rattle.jc_command_args.specs.declared.request.Tables.{Tables}
use Rattle.jc_command_shared.specs.Deeds.{Adds, Deed}
use Rattle.jc_keeper.specs.declared.form.Shape.{Shape}
use Rattle.jc_ledger.specs.Union.{union}
use Rattle.jc_ledger_files.specs.Noted.{noted}
use Rattle.jc_ledger_files.specs.NotesOf.{notes_of}
use Rattle.jc_ledger_files.specs.Owned.{owner_of, owner_window}
use Rattle.jc_ledger_files.specs.Windows.{same_window, window_of}
use Rattle.jc_ledger_files.specs.declared.window_name.WindowName.{WindowName}
use Rattle.jc_ledger_files.specs.declared.window_note.WindowNote.{WindowNote}
use Rattle.jc_notes.specs.Changed.{IsKeptFront, replacing}
use Rattle.jc_notes.specs.Each.{WorksEach}
use Rattle.jc_notes.specs.Lines.{OfFronts}
use Rattle.jc_sequences.specs.Placed.{path_of}
use Rattle.jc_runs.specs.Between.{Between}
use Rattle.jc_runs.specs.Next.{BeganWith}
use Rattle.jc_runs.specs.Renamed.{IsFoundIn, with_notes}
use Rattle.jc_runs.specs.Steps.{Forgets, Leads, LeadsOn, Step, forgets_windows}

-- ---- windows whose files go

abbrev pub without_windows : (went : WindowName → Bool) → Between → Between
without_windows went b = record b {
  known = λ k. if went (window_of k) then None else b.known k;
  owner = λ s. if went (owner_window s) then None else b.owner s;
  past = retain_keys b.past (λ k. not (went (window_of k)));
  forgotten = λ k. b.forgotten k || went (window_of k);
  released = λ s. b.released s || went (owner_window s);
}

-- The next run begins with what is left.
abbrev pub WindowsGo : Type 0
WindowsGo =
    (made kind : Tables) (b : Between) (finished aside : Journal) (windows : WindowName → List ℕ) (image : Image) (came : List LogEntry)
    (told found : List ℕ → Option (List ℕ)) (deeds : Option (List Deed)) (shape : Shape) (went : WindowName → Bool)
    → BeganWith made kind (begins_with image windows finished aside (Contains came) told found deeds shape) b
    → Leads (forgets_windows went) b (without_windows went b)
    × ((still_finished still_aside : Journal) (told' found' : List ℕ → Option (List ℕ)) (deeds' : Option (List Deed)) (shape' : Shape)
    → union still_finished still_aside ≡ (without_windows went b).past
    → BeganWith made kind (begins_with image (λ w. if went w then [] else windows w) still_finished still_aside (Contains came) told' found' deeds' shape')
    (without_windows went b))

-- ---- one window

-- a window that is named, and how many of its notes stay
pub record WindowFront : Type 0 where
  pub window : WindowName
  pub count : ℕ

abbrev pub window_front : WindowName → (count : ℕ) → WindowFront
window_front window count = record { window = window; count = count }

-- the notes that a window has, and the first of them, which stay
abbrev pub all_notes : WindowFront → (windows : WindowName → List ℕ) → List WindowNote
all_notes front windows = notes_of (windows front.window)

abbrev pub first_notes : WindowFront → (windows : WindowName → List ℕ) → List WindowNote
first_notes front windows = take front.count (all_notes front windows)

-- A number of which there is a note among the first ones has no other digest behind them.
abbrev pub IsNotedFirst : (windows : WindowName → List ℕ) → WindowFront → Type 0
IsNotedFirst windows front =
    (number : ℕ) → (noted (first_notes front windows) number ≡ None) ⊎ (noted (first_notes front windows) number ≡ noted (all_notes front windows) number)

-- whether the note of a key goes
abbrev pub goes : WindowFront → (windows : WindowName → List ℕ) → Key → Bool
goes front windows k =
    same_window front.window (window_of k)
    && (is_some (noted (all_notes front windows) k.seqnum) && not (is_some (noted (first_notes front windows) k.seqnum)))

-- whether whose a sequence is may change
abbrev pub may_go : WindowFront → Id128 → Bool
may_go front s = same_window front.window (owner_window s)

abbrev pub keeps_first : WindowFront → (windows : WindowName → List ℕ) → Step
keeps_first front windows = Forgets (goes front windows) (may_go front)

-- what there is then
abbrev pub with_first : WindowFront → (windows : WindowName → List ℕ) → Between → Between
with_first front windows b = record b {
  known = λ k. if goes front windows k then None else b.known k;
  owner = λ s. if may_go front s then owner_of (first_notes front windows) else b.owner s;
  past = retain_keys b.past (λ k. not (goes front windows k));
  forgotten = λ k. b.forgotten k || goes front windows k;
  released = λ s. b.released s || may_go front s;
}

-- whether a window has more
abbrev pub has_more : WindowFront → (windows : WindowName → List ℕ) → Bool
has_more front windows = nat_lt front.count (length (all_notes front windows))

-- the files of windows then, and what is done
abbrev pub windows_with_first : WindowFront → (windows : WindowName → List ℕ) → WindowName → List ℕ
windows_with_first front windows w = if has_more front windows then with_notes front.window (first_notes front windows) windows w else windows w

abbrev pub replacing_first : (folder : List ℕ) → WindowFront → (windows : WindowName → List ℕ) → List Deed
replacing_first folder front windows =
    if has_more front windows then replacing (path_of folder front.window) (first_notes front windows) else []

-- ---- one after the other

abbrev pub keeps_each : List WindowFront → (windows : WindowName → List ℕ) → List Step
keeps_each [] windows = []
keeps_each (front ∷ fronts) windows = keeps_first front windows ∷ keeps_each fronts (windows_with_first front windows)

abbrev pub with_each : List WindowFront → (windows : WindowName → List ℕ) → Between → Between
with_each [] windows b = b
with_each (front ∷ fronts) windows b = with_each fronts (windows_with_first front windows) (with_first front windows b)

abbrev pub windows_with_each : List WindowFront → (windows : WindowName → List ℕ) → WindowName → List ℕ
windows_with_each [] windows = windows
windows_with_each (front ∷ fronts) windows = windows_with_each fronts (windows_with_first front windows)

abbrev pub replacing_each : (folder : List ℕ) → List WindowFront → (windows : WindowName → List ℕ) → List Deed
replacing_each folder [] windows = []
replacing_each folder (front ∷ fronts) windows = replacing_first folder front windows ++ replacing_each folder fronts (windows_with_first front windows)

-- Windows keep their first notes, those of the files that a run begins with: that is such steps, one for each, and these deeds, and
-- the next run begins with what is behind them.
abbrev pub KeepsFronts : (made kind : Tables) (b : Between) (windows : WindowName → List ℕ) (image : Image) (came : List LogEntry) (folder : List ℕ)
    (fronts : List WindowFront) (old new : Option (List Deed)) → Type 0
KeepsFronts made kind b windows image came folder fronts old new =
    Adds old new (replacing_each folder fronts windows)
    × LeadsOn b (keeps_each fronts windows) (with_each fronts windows b)
    × ((finished aside : Journal) (told found : List ℕ → Option (List ℕ)) (deeds : Option (List Deed)) (shape : Shape)
    → union finished aside ≡ (with_each fronts windows b).past
    → BeganWith made kind (begins_with image (windows_with_each fronts windows) finished aside (Contains came) told found deeds shape)
    (with_each fronts windows b))

-- So do those that the lines of a text name, in the folder where their files are found.
abbrev pub FrontsAreKept : Type 0
FrontsAreKept =
    (made kind : Tables) (b : Between) (finished aside : Journal) (windows : WindowName → List ℕ) (image : Image) (came : List LogEntry)
    (told found : List ℕ → Option (List ℕ)) (deeds : Option (List Deed)) (shape : Shape) (folder text : List ℕ) (old new : Option (List Deed))
    → BeganWith made kind (begins_with image windows finished aside (Contains came) told found deeds shape) b
    → OfFronts (λ fronts. AllByRecursion (λ front. IsFoundIn folder found windows front.window) fronts
    × AllByRecursion (λ front. IsNotedFirst windows (window_front front.window front.count)) fronts
    × WorksEach (IsKeptFront found folder) fronts None None old new) text
    → OfFronts (λ fronts. KeepsFronts made kind b windows image came folder (map (λ front. window_front front.window front.count) fronts) old new) text

-- It is so of a window that keeps none, and of one that has one note of each number.
abbrev pub MayKeepFirst : Type 0
MayKeepFirst =
    (windows : WindowName → List ℕ) (front : WindowFront)
    → (front.count ≡ 0) ⊎ AllPairs (λ (one other : WindowNote). one.number ≢ other.number) (all_notes front windows)
    → IsNotedFirst windows front
