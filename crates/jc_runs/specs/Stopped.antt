-- What the next run finds behind one that was stopped. (own)
use Rattle.std.specs.Prelude.{ℕ, List, Option, Result}
use Rattle.sqlite.specs.Recovery.{Image}
use Rattle.sqlite.specs.Store.{Ghosts}
use Rattle.sqlite.specs.View.{IsClean}
use Rattle.jc_base.specs.LogEntry.{LogEntry}
use Rattle.jc_collector_answers.specs.Collected.{those_named, told_within}
use Rattle.jc_collector_answers.specs.Kept.{HoldsPrinted}
use Rattle.jc_collector_answers.specs.PrintedLaws.{named}
use Rattle.jc_collector_answers.specs.declared.name_lines.NameLines.TheVariants.{MachinesAndUploads}
use Rattle.jc_command.specs.Run.{Begins, Devices}
use Rattle.jc_command_args.specs.declared.request.Tables.{Tables}
use Rattle.jc_command_shared.specs.declared.failure.Failure.{Failure}
use Rattle.jc_command_shared.specs.declared.status.Status.{Status}
use Rattle.jc_ledger.specs.Kept.{NoneCollide}
use Rattle.jc_ledger_files.specs.declared.window_name.WindowName.{WindowName}
use Rattle.jc_runs.specs.Between.{Between, MayBegin}
use Rattle.jc_runs.specs.Next.{AreFirst, BeganWith, IsFound, NextFinds}
use Rattle.jc_runs.specs.Steps.{StopsRun}

module _ {S C L N : Type 0} (begun : Begins) (g : Devices S C L N) (files_leave : N → WindowName → List ℕ → Type 0) where
  -- A run that may begin was stopped with this store and these notes, and no two of the entries that came collide. If their disks
  -- returned what was written, then whatever a crash leaves of the store's files and of those of notes, the next run finds a step
  -- by the answers that were printed, which were given to the first ones of the uploads that a text names.
  abbrev pub StopLeadsOn : Ghosts S → (made : Tables) → (text : Option (List ℕ)) → (most_windows : Option ℕ) → (stopped : S) → (notes : N)
      → Result Status Failure → (old new : Option (List ℕ)) → Type 0
  StopLeadsOn store made text most_windows stopped notes answered old new =
      IsClean (store.view stopped) → g.ledger.clean notes → NoneCollide (g.ledger.came notes)
      → (kind : Tables) (b : Between) → BeganWith made kind begun b → MayBegin b
      → HoldsPrinted (named text) (λ answers.
      (windows : WindowName → List ℕ) (image : Image) (came : List LogEntry)
      → IsFound (files_leave notes) (g.database.may_leave stopped) (g.ledger.came notes) b windows image came
      → ∥ NextFinds kind b windows image came (λ c. AreFirst (those_named (told_within most_windows begun.told) MachinesAndUploads text) (λ uploads. StopsRun uploads answers b c)) ∥₁)
      answered old new
