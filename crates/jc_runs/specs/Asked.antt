-- A run of the program, as a step. (own)
use Rattle.std.specs.Prelude.{ℕ, ◌≡◌, ◌⊎◌, List, Option, IsSomeAnd}
use Rattle.std.specs.Borrow.{Bor}
use Rattle.sqlite.specs.Recovery.{Image}
use Rattle.jc_base.specs.LogEntry.{LogEntry}
use Rattle.jc_command.specs.Run.{Begins, Devices, Leaves, StopsAsked}
use Rattle.jc_command_args.specs.Words.{AreWrong, AskFor, AskForHelp}
use Rattle.jc_command_args.specs.declared.request.Request.{Request}
use Rattle.jc_command_args.specs.declared.request.Request.TheVariants.{CollectIntoUnion}
use Rattle.jc_command_args.specs.declared.request.Tables.{Tables}
use Rattle.jc_command_shared.specs.declared.status.Status.{Status}
use Rattle.jc_ledger.specs.Kept.{NoneCollide}
use Rattle.jc_ledger_files.specs.declared.window_name.WindowName.{WindowName}
use Rattle.jc_runs.specs.Between.{Between}
use Rattle.jc_runs.specs.Next.{BeganWith, HaveCome, NextFinds, PrintsStep}
use Rattle.jc_runs.specs.Steps.{EndsRun}

module _ {S C L N : Type 0} (begun : Begins) (g : Devices S C L N) (files_leave : N → WindowName → List ℕ → Type 0) (b : Between) where
  -- What a run over a union left, that ended, is a step from where it began, whatever the next run finds of it, if its disks
  -- returned what was written, and no two of what came collide.
  abbrev pub LeavesStep : (made : Tables) → (list : List ℕ) → (most_windows : Option ℕ) → (given old new : Option (List ℕ)) → Status → (files : C) → (notes : N) → Type 0
  LeavesStep made list most_windows given old new status files notes =
      g.database.clean files → g.ledger.clean notes → NoneCollide (g.ledger.came notes)
      → (kind : Tables) (windows : WindowName → List ℕ) (image : Image) → BeganWith made kind begun b
      → ((w : WindowName) → files_leave notes w (windows w)) → (image ≡ g.database.image files) ⊎ g.database.outcomes files image
      → (came : List LogEntry) × HaveCome (g.ledger.came notes) b came
      × NextFinds kind b windows image came (λ c. PrintsStep (λ uploads answers. EndsRun uploads answers b c) begun.told list most_windows given status old new)

  -- If a union is asked for, what is left is such a step.
  abbrev pub IsUnionStep : Leaves C N → Request → (given old new : Option (List ℕ)) → Status → Type 0
  IsUnionStep left request given old new status =
      (database list sequences : Bor (List ℕ)) (tables : Tables) (most_windows : Option ℕ) (then_export : Option (Bor (List ℕ)))
      → request ≡ CollectIntoUnion database tables list sequences most_windows then_export
      → IsSomeAnd left.files (λ files. IsSomeAnd left.ledger (LeavesStep tables list.now most_windows given old new status files))

  -- The arguments ask for something: if it is a run over a union, it is such a step. Or they ask for help, are wrong, or ask for
  -- what is refused.
  abbrev pub EndsInStep : Leaves C N → List (List ℕ) → (given old new : Option (List ℕ)) → Status → Type 0
  EndsInStep left words given old new status =
      ((request : Request) × AskFor words request × IsUnionStep left request given old new status)
      ⊎ (AskForHelp words ⊎ (AreWrong words ⊎ StopsAsked begun.told words given old new status))
