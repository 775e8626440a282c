-- What the lines ask for, one after the other.
use Rattle.std.proofs.Common.{rules}
use Rattle.jc_command_shared.specs.declared.status.Status.TheVariants.{Success}
use Rattle.jc_notes.specs.Each.{PrintsEach}
use Rattle.jc_notes.specs.Printed.{IsNotedTold}
use Rattle.jc_notes.specs.Lines.{AreLines, key_at}
use Rattle.jc_notes.proofs.Working.{of_lines, on_ok}
use Rattle.jc_notes.proofs.noted.say_noted.Goals as goal

pub returns-clause-printed : goal.returns-clause-printed
returns-clause-printed g c =
    let given = g.I.Read.remaining c.args.input.now in
    let text = c.in_ok-text.text.items in
    let keys = c.in_ok-keys.keys.items in
    let lines : AreLines key_at keys text = search rules in
    on_ok c.say_each.result
    (of_lines key_at (λ ks. PrintsEach (IsNotedTold g.R.System.found c.args.folder.now) ks Success (g.O.Write.contents c.args.output.now) (g.O.Write.contents c.say_each.new.output))
    given text keys c.in_ok-text.ensures.whole lines)
    (search rules)
