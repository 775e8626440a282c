use Rattle.std.proofs.Common.{◌∙◌}
use Rattle.jc_sequences.proofs.Lending.{if_kept}
use Rattle.jc_sequences.proofs.open_files.OpenFiles.put.Goals as goal

pub returns-clause-clean : goal.returns-clause-clean
returns-clause-clean g c = λ whole clean.
    let kept = c.keep.ensures.clean whole clean in
    let named = c.keep.ensures.worn whole in
    (kept.0, c.make_room.ensures.clean (c.add_name.ensures.worn named) (rw c.add_name.ensures.kept at kept.1))

pub returns-clause-calm : goal.returns-clause-calm
returns-clause-calm g c = if_kept c.keep.result c.keep.ensures.calm (λ kept whole clean this.
    let room = c.in_ok-make_room.ensures.calm whole clean in
    kept (c.in_ok-add_name.ensures.calm ∙ room.0) (rw c.add_name.ensures.kept room.1) this)
