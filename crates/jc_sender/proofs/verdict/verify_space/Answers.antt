-- The source's ending is one of its kind, and what it gave over a space with known bytes is those bytes' reading.
use Rattle.std.proofs.Common.{subst}
use Rattle.std.specs.Prelude.{IfOk}
use Rattle.jc_command_shared.specs.Found.{PrintsFound}
use Rattle.jc_command_shared.specs.declared.found.Found.{Found}
use Rattle.jc_sender.proofs.Verdicts.{prints_file, prints_some}
use Rattle.jc_sender.proofs.verdict.verify_space.Goals as goal
use Rattle.jc_command_args.specs.declared.request.InputKind.TheVariants.{File}

pub returns-clause-printed : goal.returns-clause-printed
returns-clause-printed g c =
    prints_some File c.default.result _ c.in_ok-count.count c.in_ok-count.ending
    c.print_found.result (g.O.Write.contents c.args.output.now) (g.O.Write.contents c.print_found.new.output)
    c.default.ensures c.new-entries.ensures.limits c.in_ok-count.ensures.ending
    (subst (λ (f : Found). IfOk c.print_found.result (λ status. PrintsFound f status (g.O.Write.contents c.args.output.now) (g.O.Write.contents c.print_found.new.output)))
    c.by_reading.ensures c.print_found.ensures.printed)

pub returns-clause-bytes : goal.returns-clause-bytes
returns-clause-bytes g c = λ bytes is_known.
    prints_file bytes c.default.result _ c.in_ok-count.count c.in_ok-count.ending
    c.print_found.result (g.O.Write.contents c.args.output.now) (g.O.Write.contents c.print_found.new.output)
    c.default.ensures (c.new-entries.ensures.reading bytes is_known) (λ reading reads. c.new-entries.ensures.only bytes reading is_known reads)
    c.in_ok-count.ensures.counted
    (subst (λ (f : Found). IfOk c.print_found.result (λ status. PrintsFound f status (g.O.Write.contents c.args.output.now) (g.O.Write.contents c.print_found.new.output)))
    c.by_reading.ensures c.print_found.ensures.printed)
