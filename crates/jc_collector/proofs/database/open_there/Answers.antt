-- The keeper has the journal that the files had.
use Rattle.std.proofs.Common.{inl}
use Rattle.jc_collector.proofs.Causes.{no_tables}
use Rattle.jc_collector.proofs.Found.{found_adopted, one_adopted, shown_adopted}
use Rattle.jc_collector.proofs.Results.{IfErr-each, IfOk-each, if_some_each}
use Rattle.jc_collector.proofs.database.open_there.Goals as goal

pub returns-clause-found : goal.returns-clause-found
returns-clause-found g c =
    IfOk-each c.adopt.result _ _
    (λ opened adopted. found_adopted g.F.OpenFromFiles.first c.in_ok-conn.conn c.in_ok-conn.ensures.found opened c.in_ok-conn.ensures.tables adopted)
    c.adopt.ensures.adopted

pub returns-clause-failed : goal.returns-clause-failed
returns-clause-failed g c = IfErr-each c.adopt.result _ _ (λ unopened. no_tables c.args.path.now unopened.failure) c.adopt.ensures.failed

pub returns-clause-one : goal.returns-clause-one
returns-clause-one g c =
    IfOk-each c.adopt.result _ _ (λ opened adopted. one_adopted g.F.OpenFromFiles.first c.in_ok-conn.conn c.in_ok-conn.ensures.found opened adopted) c.adopt.ensures.adopted

pub returns-clause-shown : goal.returns-clause-shown
returns-clause-shown g c =
    IfOk-each c.adopt.result _ _
    (λ opened adopted. shown_adopted g.F.OpenFromFiles.first c.in_ok-conn.conn c.in_ok-conn.ensures.found opened adopted) c.adopt.ensures.adopted

pub returns-clause-crash : goal.returns-clause-crash
returns-clause-crash g c =
    IfErr-each c.adopt.result _ _
    (λ unopened. if_some_each unopened.left _ _ (λ left leaves. leaves g.F.OpenFromFiles.first c.in_ok-conn.ensures.found))
    c.adopt.ensures.crash

pub returns-clause-handed : goal.returns-clause-handed
returns-clause-handed g c = IfErr-each c.adopt.result _ _ (λ unopened some. inl some) c.adopt.ensures.kept
