-- The keeper has the journal that the files had in tables of the older version.
use Rattle.std.proofs.Common.{inl}
use Rattle.jc_schema_one.specs.Tables.{one}
use Rattle.jc_collector.proofs.Causes.{no_tables}
use Rattle.jc_collector.proofs.OverFiles.{adopted}
use Rattle.jc_collector.proofs.Results.{IfErr-each, IfOk-both, if_some_each}
use Rattle.jc_collector.proofs.database.open_old.Goals as goal

pub returns-clause-begins : goal.returns-clause-begins
returns-clause-begins g c =
    IfOk-both c.adopt_tables.result _ _ _
    (λ kept back keeps. adopted g.F.OpenFromFiles.first c.in_ok-conn.conn kept.conn c.in_ok-conn.ensures.found back one c.in_ok-conn.ensures.tables keeps)
    c.adopt_tables.ensures.before c.adopt_tables.ensures.keeps

pub returns-clause-failed : goal.returns-clause-failed
returns-clause-failed g c = IfErr-each c.adopt_tables.result _ _ (λ unopened. no_tables c.args.path.now unopened.failure) (c.adopt_tables.ensures.failed (λ code is. is))

pub returns-clause-crash : goal.returns-clause-crash
returns-clause-crash g c =
    IfErr-each c.adopt_tables.result _ _
    (λ unopened. if_some_each unopened.left _ _ (λ left leaves. leaves g.F.OpenFromFiles.first c.in_ok-conn.ensures.found))
    c.adopt_tables.ensures.crash

pub returns-clause-handed : goal.returns-clause-handed
returns-clause-handed g c = IfErr-each c.adopt_tables.result _ _ (λ unopened some. inl some) c.adopt_tables.ensures.kept
