-- The lines begin the table, or stand below another one.
use Rattle.std.proofs.Common.{◌≡◌, ◌∙◌, ◌++◌, ap, sym, codes}
use Rattle.std.specs.Prelude.{decimal}
use Rattle.std.proofs.lemmas.Result.{IfOk-weaker}
use Rattle.jc_codes.proofs.Behind.{row_at_once, row_below}
use Rattle.jc_codes.proofs.table.row_about.Goals as goal

pub returns-in-Some : goal.returns-in-Some
returns-in-Some c =
    let same : c.as_str.result.now ≡ decimal c.args.code ++ codes " " = c.as_str.ensures.value ∙ c.in_ok-number.ensures.ok in
    let (n, found, rest, long) = c.in-Some.ensures.cases in
    let begins = found.1 ∙ ap (λ text. c.as_str.result.now ++ text) (sym rest) in
    row_at_once c.args.code _ c.row_of.result c.in-Some.rest.now (rw same at begins) c.row_of.ensures

pub returns : goal.returns
returns c =
    let same : c.as_str.result.now ≡ decimal c.args.code ++ codes " " = c.as_str.ensures.value ∙ c.in_ok-number.ensures.ok in
    let again : c.as_str-in-None.result.now ≡ decimal c.args.code ++ codes " " = c.as_str-in-None.ensures.value ∙ c.in_ok-number.ensures.ok in
    let lacks = rw same at c.in-None.ensures.cases in
    IfOk-weaker c.row_behind.result _ _ (λ found known. row_below c.args.code _ found lacks known) (rw again at c.row_behind.ensures)
