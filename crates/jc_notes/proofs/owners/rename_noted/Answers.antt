-- A sequence's notes are its new owner's alone, or stay as they are if it is another machine's.
use Rattle.std.proofs.Common.{◌≡◌, ◌∙◌, ◌∷◌, [], None, Some, ap, inr, rules, subst}
use Rattle.std.specs.Cmp.Lexicographic.{nat_list_eq_equiv}
use Rattle.jc_command_shared.specs.Deeds.{Adds}
use Rattle.jc_ledger.specs.contracts.owner.MachineDigestPartialEq.TheImpl.{eq-value}
use Rattle.jc_ledger_files.specs.Owned.{owner_of}
use Rattle.jc_ledger_files.specs.declared.window_note.WindowNote.{WindowNote}
use Rattle.jc_sequences.specs.Placed.{path_of}
use Rattle.jc_notes.specs.Changed.{replacing}
use Rattle.jc_notes.specs.Printed.{owner_note}
use Rattle.jc_notes.specs.Texts.{owner_line}
use Rattle.jc_notes.proofs.Printing.{not_same}
use Rattle.jc_notes.proofs.Working.{err_is, on_ok, owner_changes, owner_stays}
use Rattle.jc_notes.proofs.owners.rename_noted.Goals as goal

pub returns-then-ne-clause-renamed : goal.returns-then-ne-clause-renamed
returns-then-ne-clause-renamed g c =
    owner_stays g.R.System.found c.args.folder.now c.args.name (λ owner. owner ≡ Some c.args.from) (owner_line c.args.name.sequence c.args.to)
    (owner_note c.args.to ∷ []) c.in_ok-notes.notes.items c.in_ok-notes.ensures.notes
    (λ is. not_same eq-value.it c.owner_of.result c.args.from c.if-ne.ensures (nat_list_eq_equiv.refl c.args.from.0)
    (c.owner_of.ensures ∙ ap owner_of c.deref.ensures.value ∙ is))
    (g.O.Write.contents c.args.output.now) (g.R.System.deeds c.args.rt.now)

pub returns-clause-renamed : goal.returns-clause-renamed
returns-clause-renamed g c =
    let was : owner_of c.in_ok-notes.notes.items ≡ Some c.args.from = search rules in
    let added : Adds (g.R.System.deeds c.args.rt.now) (g.R.System.deeds c.replace_notes.new.rt) (replacing (path_of c.args.folder.now c.args.name) (owner_note c.args.to ∷ [])) =
    subst (λ (note : WindowNote). Adds (g.R.System.deeds c.args.rt.now) (g.R.System.deeds c.replace_notes.new.rt) (replacing (path_of c.args.folder.now c.args.name) (note ∷ [])))
    c.owner_note.ensures c.in_ok-replace_notes.ensures.replaced in
    on_ok c.print_owner.result
    (owner_changes g.R.System.found c.args.folder.now c.args.name (λ owner. owner ≡ Some c.args.from) (owner_line c.args.name.sequence c.args.to)
    (owner_note c.args.to ∷ []) c.in_ok-notes.notes.items c.in_ok-notes.ensures.notes was
    (g.O.Write.contents c.args.output.now) (g.O.Write.contents c.print_owner.new.output) (g.R.System.deeds c.args.rt.now) (g.R.System.deeds c.replace_notes.new.rt) added)
    (search rules)

pub returns-clause-stopped : goal.returns-clause-stopped
returns-clause-stopped g c =
    let was : owner_of c.in_ok-notes.notes.items ≡ Some c.args.from = search rules in
    let added : Adds (g.R.System.deeds c.args.rt.now) (g.R.System.deeds c.replace_notes.new.rt) (replacing (path_of c.args.folder.now c.args.name) (owner_note c.args.to ∷ [])) =
    subst (λ (note : WindowNote). Adds (g.R.System.deeds c.args.rt.now) (g.R.System.deeds c.replace_notes.new.rt) (replacing (path_of c.args.folder.now c.args.name) (note ∷ [])))
    c.owner_note.ensures c.in_ok-replace_notes.ensures.replaced in
    err_is c.print_owner.result (inr
    (owner_changes g.R.System.found c.args.folder.now c.args.name (λ owner. owner ≡ Some c.args.from) (owner_line c.args.name.sequence c.args.to)
    (owner_note c.args.to ∷ []) c.in_ok-notes.notes.items c.in_ok-notes.ensures.notes was
    None None (g.R.System.deeds c.args.rt.now) (g.R.System.deeds c.replace_notes.new.rt) added tt))
