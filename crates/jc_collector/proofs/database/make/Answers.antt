-- The tables that are made are of the kind that is asked for.
use Rattle.jc_command_args.specs.declared.request.Tables.TheVariants.{ByKey, ByNumber}
use Rattle.jc_collector.proofs.Found.{lawful}
use Rattle.jc_collector.proofs.Results.{if_some_each}
use Rattle.jc_collector.proofs.database.make.Goals as goal

pub returns-in-Err-clause-crash : goal.returns-in-Err-clause-crash
returns-in-Err-clause-crash g c =
    rw c.in-ByKey.is (if_some_each c.in-Err.unopened.left _ _ (λ left leaves. leaves (lawful ByKey)) c.in-Err.ensures.crash)

pub returns-in-Err-make_tables-clause-crash : goal.returns-in-Err-make_tables-clause-crash
returns-in-Err-make_tables-clause-crash g c =
    rw c.in-ByNumber.is
    (if_some_each c.in-Err-make_tables.unopened.left _ _ (λ left leaves. leaves (lawful ByNumber)) c.in-Err-make_tables.ensures.crash)
