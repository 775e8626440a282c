-- The keeper is that of one kind, and has the journal that the files had in tables of this kind.
use Rattle.std.proofs.Common.{inl, inr}
use Rattle.jc_command_args.specs.declared.request.Tables.TheVariants.{ByKey, ByNumber}
use Rattle.jc_collector.specs.ExportedLaws.{opens_alone, opens_then}
use Rattle.jc_collector.proofs.Exported.{opens_exports}
use Rattle.jc_collector.proofs.IntoUnion.{database_fault, fails_early, found_as}
use Rattle.jc_collector.proofs.Results.{IfOk-each}
use Rattle.jc_collector.proofs.into_union.join_names.Goals as goal

pub returns-in-ByKey-clause-runs : goal.returns-in-ByKey-clause-runs
returns-in-ByKey-clause-runs g c =
    let found = rw c.in-ByKey.is at c.in-Ok.ensures.found in
    inr (c.join_over.ensures.runs (λ db journal. journal.spells.sound) c.args.target.tables g.F.OpenFromFiles.first
    (found_as c.args.target.tables ByKey g.F.OpenFromFiles.first c.in-ByKey.keeper.conn found))

pub returns-in-ByNumber-clause-runs : goal.returns-in-ByNumber-clause-runs
returns-in-ByNumber-clause-runs g c =
    let found = rw c.in-ByNumber.is at c.in-Ok.ensures.found in
    inr (c.join_over-in-ByNumber.ensures.runs (λ db journal. journal.sound) c.args.target.tables g.F.OpenFromFiles.first
    (found_as c.args.target.tables ByNumber g.F.OpenFromFiles.first c.in-ByNumber.keeper.conn found))

pub returns-in-ByKey-clause-touched : goal.returns-in-ByKey-clause-touched
returns-in-ByKey-clause-touched g c = opens_then c.in-Ok.ensures.touched c.join_over.ensures.touched

pub returns-in-ByNumber-clause-touched : goal.returns-in-ByNumber-clause-touched
returns-in-ByNumber-clause-touched g c = opens_then c.in-Ok.ensures.touched c.join_over-in-ByNumber.ensures.touched

pub returns-in-Err-clause-touched : goal.returns-in-Err-clause-touched
returns-in-Err-clause-touched g c = opens_alone c.in-Err.ensures.touched

-- the present database isn't opened
pub returns-in-Err-clause-runs : goal.returns-in-Err-clause-runs
returns-in-Err-clause-runs g c =
    inl (fails_early g.F.StoreInFiles.in_files c.args.target.tables c.args.target.database.now g.F.OpenFromFiles.first c.args.ledger c.unopened.result _ _ (g.O.Write.contents c.args.output.now) _ _
    c.unopened.ensures.failure c.unopened.ensures.left (record {
      begins = c.in-Err.ensures.crash;
      handed = c.in-Err.ensures.handed;
      fault = database_fault c.args.target.database.now _ c.in-Err.ensures.failed;
    }))

pub returns-in-ByKey-clause-exported : goal.returns-in-ByKey-clause-exported
returns-in-ByKey-clause-exported g c =
    let found = rw c.in-ByKey.is at c.in-Ok.ensures.found in
    IfOk-each c.join_over.result _ _
    (λ run leads. λ clean kind before begin holds.
    let it = leads clean kind before begin holds in record {
      found = it.found;
      is = opens_exports _ _ _ _ _ _ c.in-Ok.ensures.touched it.is;
      keeps = it.keeps;
    })
    (c.join_over.ensures.exported c.args.target.tables g.F.OpenFromFiles.first
    (found_as c.args.target.tables ByKey g.F.OpenFromFiles.first c.in-ByKey.keeper.conn found))

pub returns-in-ByNumber-clause-exported : goal.returns-in-ByNumber-clause-exported
returns-in-ByNumber-clause-exported g c =
    let found = rw c.in-ByNumber.is at c.in-Ok.ensures.found in
    IfOk-each c.join_over-in-ByNumber.result _ _
    (λ run leads. λ clean kind before begin holds.
    let it = leads clean kind before begin holds in record {
      found = it.found;
      is = opens_exports _ _ _ _ _ _ c.in-Ok.ensures.touched it.is;
      keeps = it.keeps;
    })
    (c.join_over-in-ByNumber.ensures.exported c.args.target.tables g.F.OpenFromFiles.first
    (found_as c.args.target.tables ByNumber g.F.OpenFromFiles.first c.in-ByNumber.keeper.conn found))
