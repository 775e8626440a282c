use Rattle.std.proofs.Common.{◌≡◌, length, ◌∙◌}
use Rattle.std.specs.List.{AllPass}
use Rattle.hex.specs.Hex.{is_hex_digit}
use Rattle.jc_upload.proofs.WordLemmas.{no_id, checked_id}
use Rattle.jc_upload.specs.WordLaws.{id_digits}
use Rattle.jc_upload.proofs.line.id_of.Goals as goal

pub returns-in_err-id : goal.returns-in_err-id
returns-in_err-id c =
    c.from_residual.ensures
    ∙ no_id c.args.word.now (λ id ok is.
    let digits : (length c.args.word.now ≡ 32) × AllPass is_hex_digit c.args.word.now = rw is (id_digits id.0 ok) in
    absurd (cc (c.in_err-id.ensures.found.1 digits)))

pub returns : goal.returns
returns c =
    let same = c.is_lower_hex.ensures.same in
    c.then_some.ensures
    ∙ checked_id c.args.word.now c.in_ok-id.id c.is_lower_hex.result c.is_lower_hex.ensures.lawful same.0 same.1
    c.in_ok-id.ensures.value
