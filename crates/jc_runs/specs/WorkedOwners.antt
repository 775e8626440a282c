-- Two sequences that `owners` renames one after the other, in a folder where the files of both are found as they were before. (own)
use Rattle.std.specs.Prelude.{ℕ, ◌==◌, if◌then◌else◌, List, [], ◌∷◌, Option, Some, get_or}
use Rattle.jc_command_shared.specs.Deeds.{Deed}
use Rattle.jc_ledger.specs.declared.owner.MachineDigest.{MachineDigest}
use Rattle.jc_ledger.specs.Owners.{machine_named}
use Rattle.jc_ledger_files.specs.Owned.{owner_window}
use Rattle.jc_ledger_files.specs.declared.window_name.WindowName.{WindowName}
use Rattle.jc_notes.specs.Printed.{IsRenaming}
use Rattle.jc_notes.specs.Texts.{owner_line}
use Rattle.jc_runs.specs.Between.{Between}
use Rattle.jc_runs.specs.Renamed.{owner_notes, with_notes}
use Rattle.jc_runs.specs.Starts.{BeginsAt, StartsNoted}
use Rattle.jc_runs.specs.Steps.{LeadsOn, renames, with_owner}
use Rattle.jc_runs.specs.Worked.{numbered}
use Rattle.jc_runs.specs.WorkedNotes.{worked_windows}

-- a third machine
abbrev pub third : MachineDigest
third = machine_named (3 ∷ [])

-- What is found of owners' files, by the second digit of the sequence's id, in a folder without a name. Of other files it says
-- nothing.
unfoldable pub found_of_owners : List ℕ → Option (List ℕ)
found_of_owners path = Some (worked_windows (owner_window (numbered (if get_or path 2 0 == 49 then 1 else 2))))

-- The sequence of this number was that machine's, and is the third one's now.
abbrev pub IsRenamed : ℕ → List Deed → Type 0
IsRenamed n done =
    IsRenaming found_of_owners [] (machine_named (n ∷ [])) third (owner_window (numbered n)) (owner_line (numbered n) third) done

abbrev pub renamed_windows : WindowName → List ℕ
renamed_windows =
    with_notes (owner_window (numbered 2)) (owner_notes (Some (3 ∷ []))) (with_notes (owner_window (numbered 1)) (owner_notes (Some (3 ∷ []))) worked_windows)

abbrev pub with_third : Between → Between
with_third b = with_owner (numbered 2) (Some third) (with_owner (numbered 1) (Some third) b)

-- Both are its own then, and the next run begins so.
pub record AreRenamed (b : Between) : Type 0 where
  pub starts : StartsNoted 4 b
  pub first : (done : List Deed) × IsRenamed 1 done
  pub second : (done : List Deed) × IsRenamed 2 done
  pub leads : LeadsOn b (renames (numbered 1) ∷ renames (numbered 2) ∷ []) (with_third b)
  pub begins : BeginsAt renamed_windows (with_third b)
