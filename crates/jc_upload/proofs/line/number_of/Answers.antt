use Rattle.std.proofs.Common.{sym, ◌∙◌}
use Rattle.jc_upload.proofs.WordLemmas.{no_number, checked_number}
use Rattle.jc_upload.proofs.line.number_of.Goals as goal

pub returns-in_err-number : goal.returns-in_err-number
returns-in_err-number c =
    c.from_residual.ensures
    ∙ no_number c.args.word.now (λ n small is. absurd (cc (sym c.in_err-number.was ∙ c.parsed.ensures n small is)))

pub returns : goal.returns
returns c =
    let same = c.is_decimal.ensures.same in
    c.then_some.ensures
    ∙ checked_number c.args.word.now c.in_ok-number.number c.is_decimal.result c.is_decimal.ensures.small same.0 same.1
    (λ n small is. sym c.in_ok-number.was ∙ c.parsed.ensures n small is)
