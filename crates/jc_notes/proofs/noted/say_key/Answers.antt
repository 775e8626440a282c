-- A key's line is by what was found.
use Rattle.std.proofs.Common.{refl, rules}
use Rattle.std.specs.Prelude.{OnOk, is_some}
use Rattle.std.specs.Io.KnownBytes.{Appends}
use Rattle.jc_notes.specs.Texts.{noted_line}
use Rattle.jc_notes.proofs.Working.{on_ok}
use Rattle.jc_notes.proofs.noted.say_key.Goals as goal

pub returns-clause-printed : goal.returns-clause-printed
returns-clause-printed g c = λ kept.
    let found = c.in_ok-found.found in
    let said : OnOk c.say.result (Appends (g.O.Write.contents c.args.output.now) (g.O.Write.contents c.say.new.output) (noted_line (is_some found))) = search rules in
    on_ok c.say.result
    (λ printed. record {
      text = noted_line (is_some found);
      is = record { digest = found; is = c.in_ok-found.ensures.found kept; well = refl; line = refl };
      printed = printed;
    })
    said
