-- What was found is printed.
use Rattle.std.proofs.Common.{subst}
use Rattle.jc_command_shared.specs.Found.{PrintsFound}
use Rattle.jc_command_shared.specs.declared.found.Found.{Found}
use Rattle.jc_collector.proofs.comparing.check_noted.Goals as goal

pub returns-clause-compared : goal.returns-clause-compared
returns-clause-compared g c = record {
  comparison = c.in_ok-value.field-0.value;
  printed =
      subst (λ (found : Found). PrintsFound found c.in_ok-value-2.value (g.O.Write.contents c.args.output.now) (g.O.Write.contents c.print_found.new.output))
      c.found.ensures c.in_ok-value-2.ensures.printed;
  kept = c.in_ok-value.ensures.kept;
}
