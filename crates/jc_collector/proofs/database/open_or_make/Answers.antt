-- The keeper has the journal that the files had, or the empty one if they had none.
use Rattle.std.proofs.Common.{inl, inr, true≢false, sym, ◌∙◌}
use Rattle.jc_collector.proofs.Causes.{no_tables}
use Rattle.jc_collector.proofs.Found.{found_adopted, found_made, one_adopted, one_made, shown_adopted, shown_made}
use Rattle.jc_collector.proofs.Results.{IfErr-each, IfOk-each, if_some_each}
use Rattle.jc_collector.proofs.BeginAgain.{as_before, unmade}
use Rattle.jc_collector.proofs.database.open_or_make.Goals as goal

pub returns-then-is_empty-clause-found : goal.returns-then-is_empty-clause-found
returns-then-is_empty-clause-found g c =
    IfOk-each c.make.result _ _
    (λ opened made. found_made g.F.OpenFromFiles.first c.in-Ok.conn c.in-Ok.ensures.found opened c.args.tables
    (sym c.schema_of.ensures ∙ c.is_empty.ensures.0 c.if-is_empty.true) made)
    c.make.ensures.made

pub returns-else-is_empty-clause-found : goal.returns-else-is_empty-clause-found
returns-else-is_empty-clause-found g c =
    IfOk-each c.adopt.result _ _
    (λ opened adopted. found_adopted g.F.OpenFromFiles.first c.in-Ok.conn c.in-Ok.ensures.found opened
    (λ blank. true≢false (sym (c.is_empty.ensures.1 (c.schema_of.ensures ∙ blank)) ∙ c.if-is_empty.false)) adopted c.args.tables)
    c.adopt.ensures.adopted

pub returns-then-is_empty-clause-one : goal.returns-then-is_empty-clause-one
returns-then-is_empty-clause-one g c =
    IfOk-each c.make.result _ _ (λ opened made. one_made g.F.OpenFromFiles.first c.in-Ok.conn c.in-Ok.ensures.found opened c.args.tables made) c.make.ensures.made

pub returns-else-is_empty-clause-one : goal.returns-else-is_empty-clause-one
returns-else-is_empty-clause-one g c =
    IfOk-each c.adopt.result _ _ (λ opened adopted. one_adopted g.F.OpenFromFiles.first c.in-Ok.conn c.in-Ok.ensures.found opened adopted) c.adopt.ensures.adopted

pub returns-then-is_empty-clause-shown : goal.returns-then-is_empty-clause-shown
returns-then-is_empty-clause-shown g c =
    IfOk-each c.make.result _ _
    (λ opened made sound. inl (shown_made g.F.OpenFromFiles.first c.in-Ok.conn c.in-Ok.ensures.found opened
    (sym c.schema_of.ensures ∙ c.is_empty.ensures.0 c.if-is_empty.true) c.args.tables made sound))
    c.make.ensures.made

pub returns-else-is_empty-clause-shown : goal.returns-else-is_empty-clause-shown
returns-else-is_empty-clause-shown g c =
    IfOk-each c.adopt.result _ _
    (λ opened adopted sound. inr (shown_adopted g.F.OpenFromFiles.first c.in-Ok.conn c.in-Ok.ensures.found opened adopted sound)) c.adopt.ensures.adopted

pub returns-then-is_empty-clause-failed : goal.returns-then-is_empty-clause-failed
returns-then-is_empty-clause-failed g c = IfErr-each c.make.result _ _ (λ unopened. no_tables c.args.path.now unopened.failure) c.make.ensures.failed

pub returns-else-is_empty-clause-failed : goal.returns-else-is_empty-clause-failed
returns-else-is_empty-clause-failed g c = IfErr-each c.adopt.result _ _ (λ unopened. no_tables c.args.path.now unopened.failure) c.adopt.ensures.failed

pub returns-then-is_empty-clause-crash : goal.returns-then-is_empty-clause-crash
returns-then-is_empty-clause-crash g c =
    IfErr-each c.make.result _ _
    (λ unopened. if_some_each unopened.left _ _
    (λ left. unmade g.F.StoreInFiles.in_files c.args.tables g.F.OpenFromFiles.first left g.F.Store c.in-Ok.conn c.in-Ok.ensures.found
    (sym c.schema_of.ensures ∙ c.is_empty.ensures.0 c.if-is_empty.true)))
    c.make.ensures.crash

pub returns-else-is_empty-clause-crash : goal.returns-else-is_empty-clause-crash
returns-else-is_empty-clause-crash g c =
    IfErr-each c.adopt.result _ _
    (λ unopened. if_some_each unopened.left _ _
    (λ left leaves. as_before g.F.StoreInFiles.in_files c.args.tables g.F.OpenFromFiles.first left (leaves g.F.OpenFromFiles.first c.in-Ok.ensures.found)))
    c.adopt.ensures.crash

pub returns-in-Err-clause-crash : goal.returns-in-Err-clause-crash
returns-in-Err-clause-crash g c =
    if_some_each c.in-Err.unopened.left _ _ (as_before g.F.StoreInFiles.in_files c.args.tables g.F.OpenFromFiles.first) c.in-Err.ensures.crash

pub returns-then-is_empty-clause-handed : goal.returns-then-is_empty-clause-handed
returns-then-is_empty-clause-handed g c = IfErr-each c.make.result _ _ (λ unopened some. inl some) c.make.ensures.kept

pub returns-else-is_empty-clause-handed : goal.returns-else-is_empty-clause-handed
returns-else-is_empty-clause-handed g c = IfErr-each c.adopt.result _ _ (λ unopened some. inl some) c.adopt.ensures.kept
