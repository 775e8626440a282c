-- What files of entries' windows, and of owners', may have. (own)
use Rattle.std.specs.Prelude.{ℕ, ◌^◌, ◌<◌, ◌≤◌, List}
use Rattle.jc_ledger_files.specs.declared.window_name.WindowName.{WindowName}

-- A window of entries has what one folder may leave of it, and one of owners what the other may.
abbrev pub EachLeaves : (windows owners : WindowName → List ℕ → Type 0) → WindowName → List ℕ → Type 0
EachLeaves windows owners w file = (w.window < 2 ^ 51 → windows w file) × (2 ^ 51 ≤ w.window → owners w file)
