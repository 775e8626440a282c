-- What the lines name, one after the other.
use Rattle.std.proofs.Common.{None, inr, rules}
use Rattle.jc_sequences.specs.Placed.{path_of}
use Rattle.jc_notes.specs.Changed.{IsKeptFront}
use Rattle.jc_notes.specs.Each.{GivesUp, WorksEach}
use Rattle.jc_notes.specs.Lines.{AreLines, NameOnce, front_at}
use Rattle.jc_notes.proofs.Working.{of_lines, on_err, on_ok}
use Rattle.jc_notes.proofs.forgetting.forget_after.Goals as goal

pub returns-clause-kept : goal.returns-clause-kept
returns-clause-kept g c =
    let given = g.I.Read.remaining c.args.input.now in
    let text = c.in_ok-text.text.items in
    let fronts = c.in_ok-fronts.fronts.items in
    let lines : AreLines front_at fronts text = search rules in
    let once : NameOnce fronts = search rules in
    on_ok c.keep_fronts.result
    (λ it. of_lines front_at
    (λ fs. NameOnce fs × WorksEach (IsKeptFront g.R.System.found c.args.folder.now) fs None None (g.R.System.deeds c.args.rt.now) (g.R.System.deeds c.keep_fronts.new.rt))
    given text fronts c.in_ok-text.ensures.whole lines (once, it))
    (search rules)

pub returns-clause-stopped : goal.returns-clause-stopped
returns-clause-stopped g c =
    let given = g.I.Read.remaining c.args.input.now in
    let text = c.in_ok-text.text.items in
    let fronts = c.in_ok-fronts.fronts.items in
    let lines : AreLines front_at fronts text = search rules in
    let once : NameOnce fronts = search rules in
    on_err c.keep_fronts.result
    (λ it. inr (of_lines front_at
    (λ fs. NameOnce fs × GivesUp (IsKeptFront g.R.System.found c.args.folder.now) (λ front. path_of c.args.folder.now front.window) fs (g.R.System.deeds c.args.rt.now) (g.R.System.deeds c.keep_fronts.new.rt))
    given text fronts c.in_ok-text.ensures.whole lines (once, it)))
    (search rules)
