use Rattle.std.proofs.Common.{option_map, rules}
use Rattle.jc_collector.proofs.Exported.{none_replaced}
use Rattle.jc_collector.proofs.then_export.export_after.Goals as goal

pub returns-in_err-export_file-clause-touched : goal.returns-in_err-export_file-clause-touched
returns-in_err-export_file-clause-touched g c = rw c.in-Some.is c.export_file.ensures.touched

pub returns-clause-touched : goal.returns-clause-touched
returns-clause-touched g c = rw c.in-Some.is c.export_file.ensures.touched

pub returns-clause-answered : goal.returns-clause-answered
returns-clause-answered g c = search rules

pub returns-clause-keeps : goal.returns-clause-keeps
returns-clause-keeps g c = search rules

pub returns-in_err-status-clause-stays : goal.returns-in_err-status-clause-stays
returns-in_err-status-clause-stays g c = none_replaced c.from_residual.result (option_map (λ name. name.now) c.args.path) (g.Y.System.deeds c.args.rt.now)

pub returns-in_err-export_file-clause-stays : goal.returns-in_err-export_file-clause-stays
returns-in_err-export_file-clause-stays g c = rw c.in-Some.is (search rules)

pub returns-clause-exported : goal.returns-clause-exported
returns-clause-exported g c = λ sound made. rw c.in-Some.is (search (rules, c.export_file.ensures.exported sound made))
