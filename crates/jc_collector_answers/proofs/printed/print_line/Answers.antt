-- The line went out whole; or a front of it did.
use Rattle.std.proofs.Common.{◌≤◌, ◌≡◌, ◌∙◌, List, ℕ, length, subst, sym}
use Rattle.std.specs.Io.KnownBytes.{Appends}
use Rattle.std.proofs.lemmas.List.{take_all}
use Rattle.jc_collector_answers.proofs.Refusing.{front_alone, printed_alone}
use Rattle.jc_collector_answers.proofs.printed.print_line.Goals as goal

pub returns-clause-printed : goal.returns-clause-printed
returns-clause-printed g c =
    let old = g.O.Write.contents c.args.output.now in
    let mid = g.O.Write.contents c.write_front-count.new.output in
    let bytes = c.bytes.result.now in
    let count = c.write_front-count.result in
    let same : bytes ≡ c.bytes-2.result.now = c.bytes.ensures.value ∙ sym c.bytes-2.ensures.value in
    let whole : length bytes ≤ count = subst (λ (l : List ℕ). length l ≤ count) (sym same) c.if-count-bytes.false in
    printed_alone c.args.answer.now bytes c.line-line.result _ old mid (g.O.Write.contents c.answered.new.self)
    (subst (λ (l : List ℕ). Appends old mid l) (take_all count bytes whole) c.write_front-count.ensures.front)
    c.answered.ensures c.bytes.ensures.value c.line-line.ensures.text c.line-line.ensures.lawful c.status_with.ensures

pub returns-then-count-bytes-clause-printed : goal.returns-then-count-bytes-clause-printed
returns-then-count-bytes-clause-printed g c =
    front_alone c.args.answer.now c.write_front-count.result c.bytes.result.now c.line-line.result (g.O.Write.contents c.args.output.now)
    (g.O.Write.contents c.write_front-count.new.output) c.write_front-count.ensures.front c.bytes.ensures.value c.line-line.ensures.text
