-- By the digests of the machines' names.
use Rattle.std.proofs.Common.{◌≡◌, rules, subst}
use Rattle.jc_ledger.specs.Owners.{machine_named}
use Rattle.jc_ledger.specs.declared.owner.MachineDigest.{MachineDigest}
use Rattle.jc_sequences.specs.Placed.{path_of}
use Rattle.jc_notes.specs.Each.{GivesUp, WorksEach}
use Rattle.jc_notes.specs.Printed.{IsRenamingIf}
use Rattle.jc_notes.proofs.Working.{each_kept, err_is, gives_up_last, on_ok}
use Rattle.jc_notes.proofs.owners.rename_owner.Goals as goal

pub returns-clause-renamed : goal.returns-clause-renamed
returns-clause-renamed g c =
    let found = g.R.System.found in
    let folder = c.args.folder.now in
    let windows = c.args.windows.now in
    let old = g.O.Write.contents c.args.output.now in
    let new = g.O.Write.contents c.printed.new.output in
    let first = g.R.System.deeds c.args.rt.now in
    let now = g.R.System.deeds c.rename_each.new.rt in
    let from : c.of-from.result ≡ machine_named c.args.old.now = search rules in
    let to : c.of-to.result ≡ machine_named c.args.new.now = search rules in
    on_ok c.printed.result
    (λ kept. subst (λ (m : MachineDigest). WorksEach (IsRenamingIf found folder m (machine_named c.args.new.now)) windows old new first now) from
    (subst (λ (m : MachineDigest). WorksEach (IsRenamingIf found folder c.of-from.result m) windows old new first now) to
    (each_kept (IsRenamingIf found folder c.of-from.result c.of-to.result) windows old (g.O.Write.contents c.rename_each.new.output) new first now
    c.in_ok-rename_each.ensures.renamed kept.1)))
    c.printed.ensures.whole

pub returns-clause-stopped : goal.returns-clause-stopped
returns-clause-stopped g c =
    let found = g.R.System.found in
    let folder = c.args.folder.now in
    let windows = c.args.windows.now in
    let first = g.R.System.deeds c.args.rt.now in
    let now = g.R.System.deeds c.rename_each.new.rt in
    let from : c.of-from.result ≡ machine_named c.args.old.now = search rules in
    let to : c.of-to.result ≡ machine_named c.args.new.now = search rules in
    err_is c.printed.result
    (subst (λ (m : MachineDigest). GivesUp (IsRenamingIf found folder m (machine_named c.args.new.now)) (path_of folder) windows first now) from
    (subst (λ (m : MachineDigest). GivesUp (IsRenamingIf found folder c.of-from.result m) (path_of folder) windows first now) to
    (gives_up_last (IsRenamingIf found folder c.of-from.result c.of-to.result) (path_of folder) c.in_ok-rename_each.ensures.renamed)))
