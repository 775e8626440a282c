-- The keeper is that of one kind, and has the journal that the files had in tables of this kind.
use Rattle.jc_collector_answers.specs.Collected.{those_named, told_within}
use Rattle.jc_collector_answers.specs.Kept.{HoldsPrinted}
use Rattle.jc_collector_answers.specs.PrintedLaws.{named}
use Rattle.jc_collector_answers.specs.declared.name_lines.NameLines.TheVariants.{MachinesAndUploads}
use Rattle.jc_collector.specs.ExportedLaws.{opens_alone, opens_then}
use Rattle.jc_command_args.specs.declared.request.Tables.TheVariants.{ByKey, ByNumber}
use Rattle.jc_collector.specs.Kinds.{meaning_of}
use Rattle.jc_collector.specs.UnionLeft.{LeavesNoted}
use Rattle.jc_collector.specs.UnionLeftLaws.{at_found}
use Rattle.jc_theorems.specs.Stopped.{AnyLeft}
use Rattle.jc_theorems.proofs.union_stopping.collect_into_union_and_stop.Goals as goal

pub returns-in-ByKey-clause-each : goal.returns-in-ByKey-clause-each
returns-in-ByKey-clause-each g c = λ clean kind before begin noted.
    let past = g.P.Past.journal in
    let run = c.stop_over.result in
    let text = g.N.Read.remaining c.args.names.now in
    let found = rw c.in-ByKey.is at c.in_ok-keeper.ensures.found in
    at_found c.args.tables ByKey g.F.OpenFromFiles.first c.in-ByKey.keeper.conn found (c.stop_over.ensures.clean clean noted.2 noted.3)
    past (g.L.Ledger.known c.args.ledger) (g.L.Ledger.came c.args.ledger)
    (λ kind before. HoldsPrinted (named text)
    (λ answers. AnyLeft g.F.StoreInFiles.in_files run.files.value (LeavesNoted (those_named (told_within c.args.most_windows g.Y.System.told) MachinesAndUploads text) (meaning_of kind) past before (g.L.Ledger.came run.ledger) (g.L.Ledger.may_leave run.ledger) answers))
    run.answered (g.O.Write.contents c.args.output.now) (g.O.Write.contents c.stop_over.new.output))
    (λ may. c.stop_over.ensures.each (λ db journal. journal.spells.sound) clean noted.2 noted.3 may noted.1)
    kind before begin noted.0

pub returns-in-ByNumber-clause-each : goal.returns-in-ByNumber-clause-each
returns-in-ByNumber-clause-each g c = λ clean kind before begin noted.
    let past = g.P.Past.journal in
    let run = c.stop_over-in-ByNumber.result in
    let text = g.N.Read.remaining c.args.names.now in
    let found = rw c.in-ByNumber.is at c.in_ok-keeper.ensures.found in
    at_found c.args.tables ByNumber g.F.OpenFromFiles.first c.in-ByNumber.keeper.conn found (c.stop_over-in-ByNumber.ensures.clean clean noted.2 noted.3)
    past (g.L.Ledger.known c.args.ledger) (g.L.Ledger.came c.args.ledger)
    (λ kind before. HoldsPrinted (named text)
    (λ answers. AnyLeft g.F.StoreInFiles.in_files run.files.value (LeavesNoted (those_named (told_within c.args.most_windows g.Y.System.told) MachinesAndUploads text) (meaning_of kind) past before (g.L.Ledger.came run.ledger) (g.L.Ledger.may_leave run.ledger) answers))
    run.answered (g.O.Write.contents c.args.output.now) (g.O.Write.contents c.stop_over-in-ByNumber.new.output))
    (λ may. c.stop_over-in-ByNumber.ensures.each (λ db journal. journal.sound) clean noted.2 noted.3 may noted.1)
    kind before begin noted.0

pub returns-in-ByKey-clause-touched : goal.returns-in-ByKey-clause-touched
returns-in-ByKey-clause-touched g c = opens_then c.in_ok-keeper.ensures.touched c.stop_over.ensures.touched

pub returns-in-ByNumber-clause-touched : goal.returns-in-ByNumber-clause-touched
returns-in-ByNumber-clause-touched g c = opens_then c.in_ok-keeper.ensures.touched c.stop_over-in-ByNumber.ensures.touched

pub returns-in_err-keeper-clause-touched : goal.returns-in_err-keeper-clause-touched
returns-in_err-keeper-clause-touched g c = opens_alone c.in_err-keeper.ensures.touched
