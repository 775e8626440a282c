-- The source's ending is one of its kind, and what it gave over a device with known bytes is those bytes' reading.
use Rattle.std.proofs.Common.{subst}
use Rattle.std.specs.Prelude.{IfOk}
use Rattle.jc_command_shared.specs.Found.{PrintsFound}
use Rattle.jc_command_shared.specs.declared.found.Found.{Found}
use Rattle.jc_sender.proofs.Verdicts.{prints_some, prints_stream}
use Rattle.jc_sender.proofs.verdict.verify_export.Goals as goal
use Rattle.jc_command_args.specs.declared.request.InputKind.TheVariants.{Export}

pub returns-clause-printed : goal.returns-clause-printed
returns-clause-printed g c =
    prints_some Export c.default.result _ c.in_ok-count.count c.in_ok-count.ending
    c.print_found.result (g.O.Write.contents c.args.output.now) (g.O.Write.contents c.print_found.new.output)
    c.default.ensures c.in_ok-entries.ensures.limits c.in_ok-count.ensures.ending
    (subst (λ (f : Found). IfOk c.print_found.result (λ status. PrintsFound f status (g.O.Write.contents c.args.output.now) (g.O.Write.contents c.print_found.new.output)))
    c.by_reading.ensures c.print_found.ensures.printed)

pub returns-clause-bytes : goal.returns-clause-bytes
returns-clause-bytes g c = λ bytes is_known.
    prints_stream bytes c.default.result _ _ c.in_ok-count.count c.in_ok-count.ending
    c.print_found.result (g.O.Write.contents c.args.output.now) (g.O.Write.contents c.print_found.new.output)
    c.default.ensures is_known c.in_ok-entries.ensures.reading (c.one_reading.ensures.only c.default.result 0 bytes)
    c.in_ok-count.ensures.counted
    (subst (λ (f : Found). IfOk c.print_found.result (λ status. PrintsFound f status (g.O.Write.contents c.args.output.now) (g.O.Write.contents c.print_found.new.output)))
    c.by_reading.ensures c.print_found.ensures.printed)
