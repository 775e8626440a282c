-- The file of a window, and the one beside it, lie in the folder.
use Rattle.std.proofs.Common.{◌∙◌, [], ◌∷◌, ◌++◌, List, ℕ, subst}
use Rattle.std.specs.Prelude.{OnErr, OnOk}
use Rattle.jc_command_shared.specs.Deeds.{LeavesOld, Replaces}
use Rattle.jc_ledger_files.specs.Blocks.{blocks}
use Rattle.jc_notes.proofs.InFolder.{within}
use Rattle.jc_notes.proofs.replacing.replace_notes.Goals as goal

pub returns-clause-touched : goal.returns-clause-touched
returns-clause-touched g c = within c.args.folder.now _ c.as_str.result.now (c.as_str.ensures.value ∙ c.in-Ok.ensures) c.replace_file.ensures.touched

pub returns-clause-replaced : goal.returns-clause-replaced
returns-clause-replaced g c =
    subst
    (λ (at : List ℕ). OnOk c.replace_file.result (Replaces at (blocks c.args.notes.now ++ 0 ∷ []) (g.R.System.deeds c.args.rt.now) (g.R.System.deeds c.replace_file.new.rt)))
    (c.as_str.ensures.value ∙ c.in-Ok.ensures) c.replace_file.ensures.replaced

pub returns-clause-stays : goal.returns-clause-stays
returns-clause-stays g c =
    subst (λ (at : List ℕ). OnErr c.replace_file.result (LeavesOld at (g.R.System.deeds c.args.rt.now) (g.R.System.deeds c.replace_file.new.rt)))
    (c.as_str.ensures.value ∙ c.in-Ok.ensures) c.replace_file.ensures.stays
