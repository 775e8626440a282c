-- The windows are those that are listed. If they can't be, none is renamed.
use Rattle.std.proofs.Common.{rules}
use Rattle.std.specs.Prelude.{◌≢◌}
use Rattle.std.specs.List.{AllPairs}
use Rattle.jc_ledger_files.specs.declared.window_name.WindowName.{WindowName}
use Rattle.jc_command.proofs.NotesFailing.{renames, renames_none}
use Rattle.jc_command.proofs.notes.rename_all.Goals as goal

pub returns-in_err-windows-clause-touched : goal.returns-in_err-windows-clause-touched
returns-in_err-windows-clause-touched g c =
    renames_none g.Y.System.found c.args.sequences.now c.args.old.now c.args.new.now (g.Y.System.deeds c.args.rt.now)

pub returns-clause-touched : goal.returns-clause-touched
returns-clause-touched g c =
    let once : AllPairs (λ (one other : WindowName). one ≢ other) c.deref.result.now = search rules in
    renames g.Y.System.found c.args.sequences.now c.rename_owner.result c.deref.result.now once c.args.old.now c.args.new.now
    (g.O.Write.contents c.args.output.now) (g.O.Write.contents c.rename_owner.new.output) (g.Y.System.deeds c.args.rt.now) (g.Y.System.deeds c.rename_owner.new.rt)
    c.rename_owner.ensures.renamed c.rename_owner.ensures.stopped c.rename_owner.ensures.touched
