-- What the matches hold under an id are the values of its row.
use Rattle.std.proofs.Common.{◌∙◌, ap, map, [], unwrap_or}
use Rattle.std.proofs.lemmas.Result.{IfOk-weaker}
use Rattle.clap.specs.Words.{found_of}
use Rattle.clap.proofs.WalkLemmas.{raw_values-rows}
use Rattle.jc_command_args.proofs.asked.texts_given.Goals as goal

pub returns-in-Some : goal.returns-in-Some
returns-in-Some c =
    let same = c.in-Some.ensures ∙ raw_values-rows (found_of c.args.given.now) c.args.name.now in
    IfOk-weaker c.from_slice.result _ _ (λ texts items. ap (map (λ text. text.now)) items ∙ ap (λ values. unwrap_or values []) same)
    c.from_slice.ensures.items

pub returns-in-None : goal.returns-in-None
returns-in-None c =
    ap (map (λ text. text.now)) c.new.ensures.items
    ∙ ap (λ values. unwrap_or values []) (c.in-None.ensures ∙ raw_values-rows (found_of c.args.given.now) c.args.name.now)
