-- What a run promises is what the next one supposes.
use Rattle.std.proofs.Common.{◌≡◌, ◌∙◌, ◌↔◌, ℕ, List, Option, Result, refl, sym}
use Rattle.std.proofs.Math.Logic.{∥∥₁_map}
use Rattle.sqlite.specs.Recovery.{Image}
use Rattle.sqlite.specs.Store.{Ghosts}
use Rattle.jc_base.specs.declared.id.Key.{Key}
use Rattle.jc_base.specs.LogEntry.{LogEntry}
use Rattle.jc_collector.specs.Kinds.{meaning_of}
use Rattle.jc_collector.specs.UnionLeft.{LeavesNoted}
use Rattle.jc_collector_answers.specs.Collected.{those_named, told_within}
use Rattle.jc_collector_answers.specs.Kept.{HoldsPrinted}
use Rattle.jc_collector_answers.specs.PrintedLaws.{named, text_other}
use Rattle.jc_collector_answers.specs.declared.name_lines.NameLines.TheVariants.{MachinesAndUploads}
use Rattle.jc_command.specs.Run.{Begins, Devices, stored_before}
use Rattle.jc_command_args.specs.declared.request.Tables.{Tables}
use Rattle.jc_command_shared.specs.declared.failure.Failure.{Failure}
use Rattle.jc_command_shared.specs.declared.status.Status.{Status}
use Rattle.jc_ledger.specs.Kept.{NoneCollide}
use Rattle.jc_ledger.specs.Lagging.{MayCatchUp}
use Rattle.jc_ledger_files.specs.declared.window_name.WindowName.{WindowName}
use Rattle.jc_theorems.specs.Stopped.{AnyLeft}
use Rattle.jc_theorems.specs.StoppedUnion.{WhenNoted}
use Rattle.jc_upload.specs.declared.answer.Answer.{Answer}
use Rattle.jc_runs.specs.Between.{Between, MayBegin}
use Rattle.jc_runs.specs.Stopped.{StopLeadsOn}
use Rattle.jc_runs.specs.Next.{AreFirst, BeganWith, IsFound, NextFinds, StopIsStep}
use Rattle.jc_runs.specs.Steps.{StopsRun}
use Rattle.jc_runs.proofs.Following.{begins_alike}

module _ {S C L N : Type 0} (begun : Begins) (g : Devices S C L N) (files_leave : N → WindowName → List ℕ → Type 0) where
  -- Notes that were just opened may be caught up.
  pub may_catch_up : (made kind : Tables) (b : Between) (opened : N) → ((k : Key) → g.ledger.known opened k ≡ begun.noted k)
      → ((e : LogEntry) → g.ledger.came opened e ↔ begun.came e) → BeganWith made kind begun b → MayBegin b
      → MayCatchUp (g.ledger.known opened) (stored_before begun) b.now (g.ledger.came opened)
  may_catch_up made kind b opened known came began begins =
      begins_alike (sym began.past) (λ k key. known k ∙ began.noted k key) (λ e has. (came e).1 (began.came e has)) begins

  pub stop_leads_on : (store : Ghosts S) (made : Tables) (text : Option (List ℕ)) (most_windows : Option ℕ) (stopped : S) (opened notes : N)
      (answered : Result Status Failure) (old new : Option (List ℕ)) → g.ledger.sound opened
      → ((k : Key) → g.ledger.known opened k ≡ begun.noted k) → ((e : LogEntry) → g.ledger.came opened e ↔ begun.came e)
      → WhenNoted store made begun.image stopped
      (λ before. MayCatchUp (g.ledger.known opened) (stored_before begun) before (g.ledger.came opened) × g.ledger.sound opened × g.ledger.clean notes × NoneCollide (g.ledger.came notes))
      (λ kind before. HoldsPrinted (named text) (λ answers. AnyLeft g.database stopped
      (LeavesNoted (those_named (told_within most_windows begun.told) MachinesAndUploads text) (meaning_of kind) (stored_before begun) before (g.ledger.came notes) (g.ledger.may_leave notes) answers))
      answered old new)
      → StopIsStep begun g files_leave notes → StopLeadsOn begun g files_leave store made text most_windows stopped notes answered old new
  stop_leads_on store made text most_windows stopped opened notes answered old new sound known came each step =
      λ clean l_clean none kind b began begins.
      let Left : List Answer → Type 0 = λ answers. AnyLeft g.database stopped
      (LeavesNoted (those_named (told_within most_windows begun.told) MachinesAndUploads text) (meaning_of kind) (stored_before begun) b.now (g.ledger.came notes) (g.ledger.may_leave notes) answers) in
      let Found : List Answer → Type 0 = λ answers. (windows : WindowName → List ℕ) (image : Image) (came : List LogEntry)
      → IsFound (files_leave notes) (g.database.may_leave stopped) (g.ledger.came notes) b windows image came
      → ∥ NextFinds kind b windows image came (λ c. AreFirst (those_named (told_within most_windows begun.told) MachinesAndUploads text) (λ uploads. StopsRun uploads answers b c)) ∥₁ in
      text_other Left Found (λ answers left windows image all found.
      ∥∥₁_map (left image found.image_left) (λ noted. step made kind text most_windows answers b windows image all noted l_clean began
      (record { files_left = found.files_left; image_left = refl; come = found.come })))
      text answered old new
      (each clean kind b.now began.holds (may_catch_up made kind b opened known came began begins, sound, l_clean, none))
