-- A sequence's notes are taken away, or stay as they are if it is nobody's.
use Rattle.std.proofs.Common.{◌≡◌, None, [], inr, rules, subst}
use Rattle.std.specs.Prelude.{OnErr, OnOk, ◌≢◌}
use Rattle.jc_ledger_files.specs.Owned.{owner_of}
use Rattle.jc_ledger_files.specs.declared.window_name.WindowName.{WindowName}
use Rattle.jc_sequences.specs.Placed.{path_of}
use Rattle.jc_notes.specs.Each.{MayWork, Works}
use Rattle.jc_notes.specs.Printed.{IsOwnerChange}
use Rattle.jc_notes.specs.Texts.{free_line}
use Rattle.jc_notes.proofs.Working.{err_is, on_ok, owner_changes, owner_stays}
use Rattle.jc_notes.proofs.owners.release_one.Goals as goal

pub returns-then-is_none-clause-released : goal.returns-then-is_none-clause-released
returns-then-is_none-clause-released g c =
    let found = g.R.System.found in
    let folder = c.args.folder.now in
    let none : owner_of c.in_ok-notes.notes.items ≡ None = search rules in
    let known = g.O.Write.contents c.args.output.now in
    let deeds = g.R.System.deeds c.args.rt.now in
    subst (λ (w : WindowName). Works (IsOwnerChange found folder w (λ owner. owner ≢ None) (free_line c.args.sequence) []) known known deeds deeds)
    c.owner_window-name.ensures
    (owner_stays found folder c.owner_window-name.result (λ owner. owner ≢ None) (free_line c.args.sequence) [] c.in_ok-notes.notes.items
    c.in_ok-notes.ensures.notes (λ some. some none) known deeds)

pub returns-clause-released : goal.returns-clause-released
returns-clause-released g c =
    let found = g.R.System.found in
    let folder = c.args.folder.now in
    let was : owner_of c.in_ok-notes.notes.items ≢ None = search rules in
    let old = g.O.Write.contents c.args.output.now in
    let new = g.O.Write.contents c.print_free.new.output in
    let first = g.R.System.deeds c.args.rt.now in
    let now = g.R.System.deeds c.replace_notes.new.rt in
    subst (λ (w : WindowName). OnOk c.print_free.result (Works (IsOwnerChange found folder w (λ owner. owner ≢ None) (free_line c.args.sequence) []) old new first now))
    c.owner_window-name.ensures
    (on_ok c.print_free.result
    (owner_changes found folder c.owner_window-name.result (λ owner. owner ≢ None) (free_line c.args.sequence) [] c.in_ok-notes.notes.items
    c.in_ok-notes.ensures.notes was old new first now c.in_ok-replace_notes.ensures.replaced)
    (search rules))

pub returns-clause-stopped : goal.returns-clause-stopped
returns-clause-stopped g c =
    let found = g.R.System.found in
    let folder = c.args.folder.now in
    let was : owner_of c.in_ok-notes.notes.items ≢ None = search rules in
    let first = g.R.System.deeds c.args.rt.now in
    let now = g.R.System.deeds c.replace_notes.new.rt in
    subst (λ (w : WindowName). OnErr c.print_free.result (MayWork (IsOwnerChange found folder w (λ owner. owner ≢ None) (free_line c.args.sequence) []) (path_of folder w) first now))
    c.owner_window-name.ensures
    (err_is c.print_free.result (inr
    (owner_changes found folder c.owner_window-name.result (λ owner. owner ≢ None) (free_line c.args.sequence) [] c.in_ok-notes.notes.items
    c.in_ok-notes.ensures.notes was None None first now c.in_ok-replace_notes.ensures.replaced tt)))
