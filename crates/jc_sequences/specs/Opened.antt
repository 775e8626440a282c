-- A folder whose files have what they were found with. (own)
use Rattle.std.specs.Prelude.{ℕ, List}
use Rattle.jc_ledger_files.specs.declared.window_name.WindowName.{WindowName}
use Rattle.jc_ledger_files.specs.Files.{IsAsFound}

-- It is clean, and a crash leaves what they were found with and nothing else.
pub record IsFound (found : WindowName → List ℕ) (Clean : Type 0) (seen : WindowName → List ℕ) (may_leave : WindowName → List ℕ → Type 0) : Type 0 where
  pub clean : Clean
  pub each : (w : WindowName) → IsAsFound (found w) (seen w) (may_leave w)
