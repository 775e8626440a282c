use Rattle.jc_command.specs.Run.{Begins, begins_with, devices}
use Rattle.jc_runs.proofs.Joining.{stop_leads_on}
use Rattle.jc_runs.proofs.stopped.stopped_run_as_step.Goals as goal

pub returns-in-Ok-collect_into_union_and_stop : goal.returns-in-Ok-collect_into_union_and_stop
returns-in-Ok-collect_into_union_and_stop g c = record {
  step =
      let begun : Begins = begins_with g.F.OpenFromFiles.first g.S.Begun.windows g.S.Begun.finished g.S.Begun.aside g.S.Begun.came
      g.Y.System.told g.Y.System.found (g.Y.System.deeds c.args.rt.now) (g.O.Output.entry_shape c.args.output.now) in
      let run = c.in-Ok-collect_into_union_and_stop.run' in
      stop_leads_on begun (devices g.F.StoreInFiles.in_files g.N.Notes.Ledger) g.N.Notes.LedgerInFiles.files_leave g.F.Store
      c.args.tables (g.R.Read.remaining c.args.names.now) c.args.most_windows run.files.value c.in-Ok.notes run.ledger run.answered
      (g.O.Write.contents c.args.output.now) (g.O.Write.contents c.collect_into_union_and_stop.new.output)
      c.in-Ok.ensures.sound c.in-Ok.ensures.known c.in-Ok.ensures.came c.in-Ok-collect_into_union_and_stop.ensures.each
      (c.next_run_over_notes.ensures.stopped g.Y.System.told g.Y.System.found (g.Y.System.deeds c.args.rt.now) (g.O.Output.entry_shape c.args.output.now));
}
