-- The tables are those that are asked for.
use Rattle.jc_collector.proofs.migrating.migrated_to.Goals as goal

pub returns-in-ByKey-clause-moved : goal.returns-in-ByKey-clause-moved
returns-in-ByKey-clause-moved g c = rw c.in-ByKey.is c.migrated_by_key.ensures.moved

pub returns-in-ByNumber-clause-moved : goal.returns-in-ByNumber-clause-moved
returns-in-ByNumber-clause-moved g c = rw c.in-ByNumber.is c.migrated_by_number.ensures.moved
