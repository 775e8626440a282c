-- The line is that of what the delivery says.
use Rattle.std.proofs.Common.{subst}
use Rattle.std.specs.Prelude.{IfOk}
use Rattle.jc_command_shared.specs.Found.{PrintsFound}
use Rattle.jc_command_shared.specs.declared.found.Found.{Found}
use Rattle.jc_collector.proofs.Inspections.{some_printed, upload_printed}
use Rattle.jc_collector.proofs.inspecting.inspect_delivery.Goals as goal

pub returns-clause-printed : goal.returns-clause-printed
returns-clause-printed g c =
    some_printed c.in_ok-inspected.inspected c.print_found.result (g.O.Write.contents c.args.output.now)
    (g.O.Write.contents c.print_found.new.output) c.in_ok-inspected.ensures.format
    (subst (λ (f : Found). IfOk c.print_found.result (λ status. PrintsFound f status (g.O.Write.contents c.args.output.now) (g.O.Write.contents c.print_found.new.output)))
    c.found_of.ensures c.print_found.ensures.printed)

pub returns-clause-says : goal.returns-clause-says
returns-clause-says g c = λ upload known.
    upload_printed c.args.bounds.now upload c.default.result c.in_ok-inspected.inspected c.print_found.result (g.O.Write.contents c.args.output.now)
    (g.O.Write.contents c.print_found.new.output) c.default.ensures (c.in_ok-inspected.ensures.says upload known)
    (subst (λ (f : Found). IfOk c.print_found.result (λ status. PrintsFound f status (g.O.Write.contents c.args.output.now) (g.O.Write.contents c.print_found.new.output)))
    c.found_of.ensures c.print_found.ensures.printed)
