use Rattle.std.proofs.Common.{ap, sym, ◌∙◌, subst, is_some}
use Rattle.std.specs.Str.{IsUtf8}
use Rattle.std.specs.Result.{result_ok}
use Rattle.std.proofs.lemmas.Fmt.{IsAscii-decimal, parse-decimal}
use Rattle.std.proofs.lemmas.Str.{IsUtf8-from_ascii}
use Rattle.jc_upload.proofs.WordLemmas.{refused, taken}
use Rattle.jc_upload.proofs.line.parsed.Goals as goal

pub returns-in_err-ok : goal.returns-in_err-ok
returns-in_err-ok c n small is =
    let text : IsUtf8 c.args.word.now = subst IsUtf8 (sym is) (IsUtf8-from_ascii _ (IsAscii-decimal n small)) in
    absurd (refused _ _ _ _ c.from_utf8.ensures.cases (sym c.ok.ensures.variant ∙ ap is_some c.in_err-ok.was) (λ e no. no.0 text))

pub returns : goal.returns
returns c n small is =
    let whole = taken _ _ _ c.in_ok-ok.field-0 c.from_utf8.ensures.cases (sym c.in_ok-ok.was ∙ c.ok.ensures.value) in
    let read = parse-decimal 64 n c.in_ok-ok.field-0.now c.parse.result small small (whole.0 ∙ is) c.parse.ensures.value.0 in
    c.ok-2.ensures.value ∙ ap result_ok read
