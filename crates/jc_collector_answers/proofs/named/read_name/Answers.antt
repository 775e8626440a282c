-- A name is a line without its newline.
use Rattle.std.proofs.Common.{rules, ◌≡◌, ◌∙◌, ◌<◌, ℕ, Some, length, ap, sym}
use Rattle.std.specs.Prelude.{IfSome, IsSome}
use Rattle.std.specs.Io.BufRead.{take_through}
use Rattle.jc_collector_answers.proofs.Naming.{loses_popped}
use Rattle.jc_collector_answers.proofs.Successive.{some_read}
use Rattle.jc_collector_answers.proofs.named.read_name.Goals as goal

pub returns-in-Some-eq10-clause-name : goal.returns-in-Some-eq10-clause-name
returns-in-Some-eq10-clause-name g c = λ yes.
    let old = g.L.Read.remaining c.args.names.now in
    let new = g.L.Read.remaining c.read_until.new.self in
    let before = c.clear.new.self.items in
    let items = c.read_until.new.buf.items in
    let some : IfSome old (λ text. 0 < length (take_through 10 text)) = some_read old before items c.in-Ok.field-0 c.in-Ok.ensures.bytes (search rules) (search rules) in
    let pops : 0 < length items → IsSome c.pop.result = λ within. c.pop.ensures.variant.1 (search rules) in
    let ten : c.in-Some-eq10.field-0.now ≡ 10 = search rules in
    loses_popped old new before items c.pop.new.self.items c.pop.result c.in-Ok.ensures.rest some c.clear.ensures.items c.in-Ok.ensures.bytes
    c.pop.ensures.items pops
    (rw (sym c.deref.ensures.value) (sym c.in-Some-eq10.ensures.value ∙ ap (λ (n : ℕ). Some n) ten))
