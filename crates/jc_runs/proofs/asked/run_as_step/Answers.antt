use Rattle.jc_command.specs.Run.{Begins, begins_with, devices}
use Rattle.jc_runs.proofs.Asking.{ended, following}
use Rattle.jc_runs.proofs.asked.run_as_step.Goals as goal

pub returns : goal.returns
returns g c = record {
  step = λ b begins had status back is.
      let files = c.run_command-ended.result.files in
      let ledger = c.run_command-ended.result.ledger in
      let begun : Begins =
      begins_with g.F.OpenFromFiles.first g.S.Begun.windows g.S.Begun.finished g.S.Begun.aside g.S.Begun.came g.Y.System.told g.Y.System.found
      (g.Y.System.deeds c.args.rt.now) (g.O.Output.entry_shape c.args.output.now) in
      let over = devices g.F.StoreInFiles.in_files g.N.Notes.Ledger in
      let follow = following begun over g.N.Notes.LedgerInFiles.files_leave b files ledger
      (c.follow.ensures.ended begun.told begun.found begun.deeds begun.shape) (c.follow.ensures.come b had) in
      ended begun over g.N.Notes.LedgerInFiles.files_leave b files ledger _ follow begins _ _ _ _ _ _ status
      (c.run_command-ended.ensures.ended status back is);
}
