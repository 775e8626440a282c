-- The number says which status it was.
use Rattle.std.proofs.Common.{◌≡◌, ◌∙◌, None, ap, false, inr, map, string_bytes, true}
use Rattle.jc_command_shared.specs.Status.{number_of}
use Rattle.jc_command.proofs.Runs.{by_number, either_by_number, stops_by_number}
use Rattle.jc_command.proofs.run.run_command.Goals as goal

pub returns-in-Ok-clause-ended : goal.returns-in-Ok-clause-ended
returns-in-Ok-clause-ended g c = λ status some number.
    by_number _ _ _ (map string_bytes c.args.words.items) (map string_bytes c.as_slice.result.now)
    (g.I.Read.remaining c.args.input.now) (g.O.Write.contents c.args.output.now) (g.O.Write.contents c.answered.new.output)
    (g.E.Write.contents c.args.errors.now) (g.E.Write.contents c.answered.new.errors) c.number.result c.in-Ok.done.status status
    (ap (map string_bytes) c.as_slice.ensures.value) c.number.ensures number c.in-Ok.ensures.ended

pub returns-clause-ended : goal.returns-clause-ended
returns-clause-ended g c = λ status some number.
    stops_by_number _ _ _ (map string_bytes c.args.words.items) (map string_bytes c.as_slice.result.now)
    (g.I.Read.remaining c.args.input.now) (g.O.Write.contents c.args.output.now) (g.O.Write.contents c.answered.new.output)
    (g.E.Write.contents c.args.errors.now) (g.E.Write.contents c.report.new.errors) c.number-in-Err.result _ status
    (ap (map string_bytes) c.as_slice.ensures.value) (c.number-in-Err.ensures ∙ ap number_of c.report.ensures) number (λ failed. let none : false ≡ true = some failed in cc)
    c.in-Err.ensures.stopped

pub returns-in-Ok-clause-touched : goal.returns-in-Ok-clause-touched
returns-in-Ok-clause-touched g c = rw c.as_slice.ensures.value at c.answered.ensures.touched

pub returns-clause-touched : goal.returns-clause-touched
returns-clause-touched g c = rw c.as_slice.ensures.value at c.answered.ensures.touched

pub returns-in-Ok-clause-unopened : goal.returns-in-Ok-clause-unopened
returns-in-Ok-clause-unopened g c = rw c.as_slice.ensures.value at c.answered.ensures.unopened

pub returns-clause-unopened : goal.returns-clause-unopened
returns-clause-unopened g c = rw c.as_slice.ensures.value at c.answered.ensures.unopened

pub returns-in-Ok-clause-failed : goal.returns-in-Ok-clause-failed
returns-in-Ok-clause-failed g c = λ status number.
    either_by_number _ _ _ (map string_bytes c.args.words.items) (map string_bytes c.as_slice.result.now)
    (g.I.Read.remaining c.args.input.now) (g.O.Write.contents c.args.output.now) (g.O.Write.contents c.answered.new.output)
    (g.Y.System.deeds c.answered.new.rt) c.number.result c.in-Ok.done.status status None
    (ap (map string_bytes) c.as_slice.ensures.value) c.number.ensures number c.in-Ok.ensures.performed

pub returns-clause-failed : goal.returns-clause-failed
returns-clause-failed g c = λ status number.
    either_by_number _ _ _ (map string_bytes c.args.words.items) (map string_bytes c.as_slice.result.now)
    (g.I.Read.remaining c.args.input.now) (g.O.Write.contents c.args.output.now) (g.O.Write.contents c.answered.new.output)
    (g.Y.System.deeds c.answered.new.rt) c.number-in-Err.result _ status _
    (ap (map string_bytes) c.as_slice.ensures.value) (c.number-in-Err.ensures ∙ ap number_of c.report.ensures) number (inr c.in-Err.ensures.left)
