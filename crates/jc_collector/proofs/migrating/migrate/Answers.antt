-- What was counted is printed.
use Rattle.std.proofs.Common.{◌∙◌, rules}
use Rattle.jc_collector.proofs.OverFiles.{match_each, prints_counted}
use Rattle.jc_collector.proofs.migrating.migrate.Goals as goal

pub returns-clause-moved : goal.returns-clause-moved
returns-clause-moved g c =
    let old = g.O.Write.contents c.args.output.now in
    let new = g.O.Write.contents c.print_health.new.output in
    let health = c.in_ok-value.field-0.value in
    let prints = c.in_ok-value-2.ensures.printed in
    match_each c.in_ok-value.field-0.files _ _ _ _ c.in_ok-value.ensures.moved (λ refused. prints.judged ∙ refused)
    (λ files leads kind becomes clean before begin.
    let it = leads kind becomes clean before begin in
    record { found = it.found; is = prints_counted health c.in_ok-value-2.value old new prints before it.found it.is; keeps = it.keeps })

pub returns-clause-printed : goal.returns-clause-printed
returns-clause-printed g c = search rules
