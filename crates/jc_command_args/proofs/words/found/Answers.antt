-- What clap promises of a simple command, over the program's grammar.
use Rattle.std.proofs.Common.{map, string_bytes, subst, sym}
use Rattle.clap.specs.Words.{app_of}
use Rattle.jc_command_args.specs.Grammar.{IsGrammar}
use Rattle.jc_command_args.proofs.Outcomes.{answered, right, simple_and_free}
use Rattle.jc_command_args.proofs.words.found.Goals as goal

pub returns-clause-right : goal.returns-clause-right
returns-clause-right c =
    let app = app_of c.into_inner-program.result in
    let ours = subst (λ it. IsGrammar (app_of it)) (sym c.into_inner-program.ensures) c.in_ok-program.ensures in
    let matched = c.try_get_matches_from.ensures in
    right app (map string_bytes c.args.words.now) c.try_get_matches_from.result ours (matched.kinds (simple_and_free app ours))
    matched.matches

pub returns-clause-answer : goal.returns-clause-answer
returns-clause-answer c =
    let app = app_of c.into_inner-program.result in
    let ours = subst (λ it. IsGrammar (app_of it)) (sym c.into_inner-program.ensures) c.in_ok-program.ensures in
    answered app (map string_bytes c.args.words.now) c.try_get_matches_from.result ours
    (c.try_get_matches_from.ensures.kinds (simple_and_free app ours))
