-- A window that `notes forget-after` has keep none of its notes. (own)
use Rattle.std.specs.Prelude.{◌++◌, ℕ, List, [], ◌∷◌, Option, Some, codes, map}
use Rattle.sqlite.specs.Recovery.{Image}
use Rattle.jc_collector.specs.Kinds.{BeginsIn}
use Rattle.jc_command_args.specs.declared.request.Tables.{Tables}
use Rattle.jc_ledger_files.specs.Windows.{window_of}
use Rattle.jc_notes.specs.Changed.{replacing}
use Rattle.jc_notes.specs.Lines.{OfFronts}
use Rattle.jc_sequences.specs.Placed.{path_of}
use Rattle.jc_runs.specs.Between.{Between}
use Rattle.jc_runs.specs.Forgotten.{KeepsFronts, window_front}
use Rattle.jc_runs.specs.Starts.{StartsNoted}
use Rattle.jc_runs.specs.Worked.{of_one}
use Rattle.jc_runs.specs.WorkedNotes.{worked_windows}

-- what asks for it, of the window of the first machine's entry
abbrev pub front_text : List ℕ
front_text = codes "01000000000000000000000000000000 0 0" ++ 10 ∷ []

-- the file of that window is found, in a folder without a name
unfoldable pub found_of_one : List ℕ → Option (List ℕ)
found_of_one path = Some (worked_windows (window_of of_one.key))

-- So it is where a run begins with the present database, and the next run begins with what is left.
pub record KeepsNoNote (b : Between) : Type 0 where
  pub starts : StartsNoted 4 b
  pub keeps : (made kind : Tables) (image : Image) → BeginsIn made kind image b.now
      → OfFronts (λ fronts. KeepsFronts made kind b worked_windows image b.came [] (map (λ front. window_front front.window front.count) fronts)
      (Some []) (Some (replacing (path_of [] (window_of of_one.key)) []))) front_text
