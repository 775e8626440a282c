-- What holds of calls of a ledger's windows, and of those of its owners besides. (own)
use Rattle.std.specs.Prelude.{ℕ, ◌≡◌, ◌≢◌, ◌+◌, List, Option, Result, Err, IsOk}
use Rattle.jc_base.specs.declared.id.Id128.{Id128}
use Rattle.jc_base.specs.declared.id.Key.{Key}
use Rattle.jc_keeper.specs.declared.keeper.KeepStop.{KeepStop}
use Rattle.jc_keeper.specs.declared.keeper.KeepStop.TheVariants.{ReadFailed}
use Rattle.jc_keeper.specs.Keeping.{StoreHasCause}
use Rattle.jc_ledger.specs.declared.owner.MachineDigest.{MachineDigest}
use Rattle.jc_ledger.specs.Crash.{AddsNothing}
use Rattle.jc_ledger.specs.Known.{Known}
use Rattle.jc_ledger.specs.Owners.{OwnersLeave}
use Rattle.jc_ledger_files.specs.declared.window_name.WindowName.{WindowName}
use Rattle.jc_ledger_files.specs.declared.window_note.WindowNote.{WindowNote}
use Rattle.jc_ledger_files.specs.Owned.{owner_in, owner_of, owner_window}
use Rattle.jc_ledger_files.specs.Windows.{known_in}

-- what a ledger may know, and whom a sequence may belong to, by what windows may have
abbrev pub may_know : (WindowName → List WindowNote → Type 0) → Known → Type 0
may_know leaves found = (left : WindowName → List WindowNote) × (((w : WindowName) → leaves w (left w)) × ((k : Key) → found k ≡ known_in left k))

abbrev pub may_belong : (WindowName → List WindowNote → Type 0) → Id128 → Option MachineDigest → Type 0
may_belong leaves s found = (left : List WindowNote) × (leaves (owner_window s) left × (found ≡ owner_of left))

-- Whom sequences belong to stays.
pub record OwnersStay {A T : Type 0} (clean sound : A → Type 0) (failures : A → ℕ) (notes : A → WindowName → List WindowNote)
    (may_leave : A → WindowName → List WindowNote → Type 0) (windows_before owners_before windows owners : A) (result : Result T KeepStop) : Type 0 where
  pub answered : clean windows × clean owners → IsOk result → sound windows × sound owners
  pub was_sound : sound windows × sound owners → sound windows_before × sound owners_before
  pub was_clean : clean windows × clean owners → clean windows_before × clean owners_before
  pub store : StoreHasCause (failures windows_before + failures owners_before) (failures windows + failures owners) result
  pub owned : sound windows × sound owners → owner_in (notes owners) ≡ owner_in (notes owners_before)
  pub owners_crash : clean windows × clean owners → OwnersLeave (may_belong (may_leave owners_before)) (may_belong (may_leave owners)) (λ _ _. ⊥)
  pub never_read : result ≢ Err ReadFailed

-- ... and what is known stays, too.
pub record BothStay {A T : Type 0} (clean sound : A → Type 0) (failures : A → ℕ) (notes : A → WindowName → List WindowNote)
    (may_leave : A → WindowName → List WindowNote → Type 0) (windows_before owners_before windows owners : A) (result : Result T KeepStop) : Type 0 where
  pub on : OwnersStay clean sound failures notes may_leave windows_before owners_before windows owners result
  pub same : sound windows × sound owners → known_in (notes windows) ≡ known_in (notes windows_before)
  pub crash : clean windows × clean owners → AddsNothing (may_know (may_leave windows_before)) (may_know (may_leave windows))
