-- The lines stand behind what was looked for first.
use Rattle.std.proofs.Common.{◌≡◌, ◌∙◌, ◌∷◌}
use Rattle.jc_codes.proofs.Behind.{found_below, none_below, row_there}
use Rattle.jc_codes.proofs.table.row_behind.Goals as goal

pub returns-in-Some : goal.returns-in-Some
returns-in-Some c =
    let same : c.as_str.result.now ≡ 10 ∷ c.args.number.now = c.as_str.ensures.value ∙ c.in_ok-begin.ensures.ok in
    let (i, j, finds, before, behind, order, long, short) = rw same at c.in-Some.ensures.cases in
    row_there c.args.number.now _ c.row_of.result c.in-Some.rest.now
    (found_below c.args.number.now _ i j c.in-Some.field-0-0.now c.in-Some.rest.now finds before behind long) c.row_of.ensures

pub returns : goal.returns
returns c =
    let same : c.as_str.result.now ≡ 10 ∷ c.args.number.now = c.as_str.ensures.value ∙ c.in_ok-begin.ensures.ok in
    let lacks = rw same at c.in-None.ensures.cases in
    λ rest row there says. none_below c.args.number.now _ lacks rest there
