-- Windows in turn, until none is left.
use Rattle.std.proofs.Common.{[], rules}
use Rattle.jc_ledger_files.specs.declared.window_name.WindowName.{WindowName}
use Rattle.jc_notes.specs.Printed.{IsListedIf}
use Rattle.jc_notes.proofs.Turns.{none_printed, one_printed}
use Rattle.jc_notes.proofs.owners.list_owners.Goals as goal

abbrev none_there : WindowName
none_there = record { sequence = record { 0 = [] }; window = 0 }

pub loop-name-init : goal.loop-name-init
loop-name-init g c = record { status = search rules; printed = none_printed (IsListedIf g.R.System.found c.args.folder.now) (g.O.Write.contents c.args.output.now) }

pub loop-name-preserved : goal.loop-name-preserved
loop-name-preserved g c = record {
  status = search rules;
  printed = one_printed (IsListedIf g.R.System.found c.args.folder.now) c.args.windows.now c.loop-name.name-index none_there
      c.loop-name.status c.judged-status.result c.in_ok-is_read.is_read (g.O.Write.contents c.args.output.now)
      (g.O.Write.contents c.loop-name.output) (g.O.Write.contents c.list_one.new.output)
      c.loop-name-test.true c.loop-name.invariant.printed c.in_ok-is_read.ensures.printed c.judged-status.ensures;
}
