-- Each part is split off at its first newline or blank.
use Rattle.std.proofs.Common.{◌∙◌, ◌++◌, ◌∷◌, Some, ap, arith, rules, sym}
use Rattle.std.proofs.lemmas.Str.Pattern.{split_parts}
use Rattle.jc_codes.proofs.Behind.{no_advice, no_line, no_name}
use Rattle.jc_codes.proofs.table.row_of.Goals as goal

pub returns-in_err-line : goal.returns-in_err-line
returns-in_err-line c =
    let none = no_line c.args.rest.now c.in_err-line.ensures.cases in
    search (rules, none)

pub returns-in_err-name : goal.returns-in_err-name
returns-in_err-name c =
    let none = no_name c.args.rest.now c.in_ok-line.line c.in_ok-line.below c.in_ok-line.ensures.cases
    (rw c.trim.ensures.trim at c.in_err-name.ensures.cases) in
    search (rules, none)

pub returns-in_err-advice : goal.returns-in_err-advice
returns-in_err-advice c =
    let none = no_advice c.args.rest.now c.in_ok-line.line c.in_ok-line.below c.in_ok-line.ensures.cases c.in_err-advice.ensures.cases in
    search (rules, none)

pub returns : goal.returns
returns c =
    let first = split_parts 10 c.args.rest.now (Some (c.in_ok-line.line, c.in_ok-line.below)) c.in_ok-line.ensures.cases (omega arith) in
    let word = split_parts 32 c.trim.result.now (Some (c.in_ok-name.name, c.in_ok-name.meaning)) c.in_ok-name.ensures.cases (omega arith) in
    let second = split_parts 10 c.in_ok-line.below.now (Some (c.in_ok-advice.advice, c.in_ok-advice.field-0-1)) c.in_ok-advice.ensures.cases
    (omega arith) in
    record {
      line = c.in_ok-line.line.now;
      meaning = c.in_ok-name.meaning.now;
      advice = c.in_ok-advice.advice.now;
      after = c.in_ok-advice.field-0-1.now;
      line_ends = first.1;
      advice_ends = second.1;
      name_ends = word.1;
      lines = first.0 ∙ ap (λ text. c.in_ok-line.line.now ++ 10 ∷ text) second.0;
      words = sym c.trim.ensures.trim ∙ word.0;
      means = c.trim-2.ensures.trim;
      advised = c.trim-3.ensures.trim;
    }
