-- The keeper has the journal that the files had.
use Rattle.std.proofs.Common.{inl}
use Rattle.jc_collector.proofs.Causes.{no_tables}
use Rattle.jc_collector.proofs.Older.{earlier_found}
use Rattle.jc_collector.proofs.Results.{IfErr-each, IfOk-each, if_some_each}
use Rattle.jc_collector.proofs.earlier.open_earlier.Goals as goal

pub returns-clause-found : goal.returns-clause-found
returns-clause-found g c =
    IfOk-each c.adopt_earlier.result _ _
    (λ taken adopted. earlier_found g.F.OpenFromFiles.first c.in_ok-conn.conn c.in_ok-conn.ensures.found c.in_ok-conn.ensures.tables taken adopted)
    c.adopt_earlier.ensures.adopted

pub returns-clause-failed : goal.returns-clause-failed
returns-clause-failed g c = IfErr-each c.adopt_earlier.result _ _ (λ unopened. no_tables c.args.path.now unopened.failure) c.adopt_earlier.ensures.failed

pub returns-clause-crash : goal.returns-clause-crash
returns-clause-crash g c =
    IfErr-each c.adopt_earlier.result _ _
    (λ unopened. if_some_each unopened.left _ _ (λ left leaves. leaves g.F.OpenFromFiles.first c.in_ok-conn.ensures.found))
    c.adopt_earlier.ensures.crash

pub returns-clause-handed : goal.returns-clause-handed
returns-clause-handed g c = IfErr-each c.adopt_earlier.result _ _ (λ unopened some. inl some) c.adopt_earlier.ensures.kept
