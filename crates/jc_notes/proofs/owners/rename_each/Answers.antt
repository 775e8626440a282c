-- Windows in turn, until none is left.
use Rattle.std.proofs.Common.{[], rules}
use Rattle.jc_command_shared.specs.DeedLaws.{changes_then, nothing_changes}
use Rattle.jc_ledger_files.specs.declared.window_name.WindowName.{WindowName}
use Rattle.jc_sequences.specs.Placed.{path_of}
use Rattle.jc_notes.specs.Printed.{IsRenamingIf}
use Rattle.jc_notes.proofs.Working.{all_done, err_is, gives_up, none_done, one_done}
use Rattle.jc_notes.proofs.owners.rename_each.Goals as goal

abbrev none_there : WindowName
none_there = record { sequence = record { 0 = [] }; window = 0 }

pub loop-name-init : goal.loop-name-init
loop-name-init g c = record {
  touched = nothing_changes (g.R.System.deeds c.args.rt.now);
  renamed = none_done (IsRenamingIf g.R.System.found c.args.folder.now c.args.from c.args.to) (g.O.Write.contents c.args.output.now) (g.R.System.deeds c.args.rt.now);
}

pub loop-name-preserved : goal.loop-name-preserved
loop-name-preserved g c = record {
  touched = changes_then c.loop-name.invariant.touched c.rename_one.ensures.touched;
  renamed = one_done (IsRenamingIf g.R.System.found c.args.folder.now c.args.from c.args.to) c.args.windows.now c.loop-name.name-index none_there
      (g.O.Write.contents c.args.output.now) (g.O.Write.contents c.loop-name.output) (g.O.Write.contents c.rename_one.new.output)
      (g.R.System.deeds c.args.rt.now) (g.R.System.deeds c.loop-name.rt) (g.R.System.deeds c.rename_one.new.rt)
      c.loop-name-test.true c.loop-name.invariant.renamed c.in_ok-rename_one.ensures.renamed;
}

pub returns-clause-renamed : goal.returns-clause-renamed
returns-clause-renamed g c =
    all_done (IsRenamingIf g.R.System.found c.args.folder.now c.args.from c.args.to) c.args.windows.now c.loop-name.name-index
    (g.O.Write.contents c.args.output.now) (g.O.Write.contents c.loop-name.output)
    (g.R.System.deeds c.args.rt.now) (g.R.System.deeds c.loop-name.rt) (search rules) c.loop-name.invariant.renamed

pub returns-in_err-rename_one-clause-stopped : goal.returns-in_err-rename_one-clause-stopped
returns-in_err-rename_one-clause-stopped g c =
    err_is c.from_residual.result
    (gives_up (IsRenamingIf g.R.System.found c.args.folder.now c.args.from c.args.to) (path_of c.args.folder.now) c.args.windows.now c.loop-name.name-index none_there
    (g.O.Write.contents c.args.output.now) (g.O.Write.contents c.loop-name.output)
    (g.R.System.deeds c.args.rt.now) (g.R.System.deeds c.loop-name.rt) (g.R.System.deeds c.rename_one.new.rt)
    c.loop-name-test.true c.loop-name.invariant.renamed c.in_err-rename_one.ensures.stopped)
