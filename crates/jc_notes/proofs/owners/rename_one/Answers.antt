-- Of another window nothing is printed, and it stays.
use Rattle.std.proofs.Common.{◌≡◌, ◌^◌, inl, inr, refl, rules}
use Rattle.std.specs.Prelude.{◌≢◌}
use Rattle.jc_sequences.specs.Placed.{path_of}
use Rattle.jc_notes.proofs.Working.{idle, may_more, on_err, on_ok, works_more}
use Rattle.jc_notes.proofs.owners.rename_one.Goals as goal

pub returns-then-name-owner_window-clause-renamed : goal.returns-then-name-owner_window-clause-renamed
returns-then-name-owner_window-clause-renamed g c =
    let other : c.args.name.window ≢ 2 ^ 51 = search rules in
    idle (g.O.Write.contents c.args.output.now) (g.R.System.deeds c.args.rt.now) (inr (other, (refl, refl)))

pub returns-clause-renamed : goal.returns-clause-renamed
returns-clause-renamed g c =
    let own : c.args.name.window ≡ 2 ^ 51 = search rules in
    on_ok c.rename_noted.result (λ it. works_more (λ text deeds is. inl (own, is)) it) c.rename_noted.ensures.renamed

pub returns-clause-stopped : goal.returns-clause-stopped
returns-clause-stopped g c =
    let own : c.args.name.window ≡ 2 ^ 51 = search rules in
    on_err c.rename_noted.result (λ it. may_more (λ text deeds is. inl (own, is)) (path_of c.args.folder.now c.args.name) it) c.rename_noted.ensures.stopped
