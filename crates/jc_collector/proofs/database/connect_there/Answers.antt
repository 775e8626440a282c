-- The file isn't a database, or it has tables.
use Rattle.std.proofs.Common.{true≢false, sym, ◌∙◌}
use Rattle.jc_collector.proofs.database.connect_there.Goals as goal

pub returns-then-not-begins_as_database-clause-failed : goal.returns-then-not-begins_as_database-clause-failed
returns-then-not-begins_as_database-clause-failed g c =
    rw c.early-then-not-begins_as_database.ensures.failure (c.no_journal.ensures c.args.path.now)

pub returns-clause-found : goal.returns-clause-found
returns-clause-found g c = c.in_ok-conn.ensures.found

pub returns-clause-tables : goal.returns-clause-tables
returns-clause-tables g c = λ blank. true≢false (sym (c.is_empty.ensures.1 (c.schema_of.ensures ∙ blank)) ∙ c.if-is_empty.false)

pub returns-clause-autocommit : goal.returns-clause-autocommit
returns-clause-autocommit g c = c.in_ok-conn.ensures.autocommit

pub returns-then-is_empty-clause-crash : goal.returns-then-is_empty-clause-crash
returns-then-is_empty-clause-crash g c =
    c.close_refused-left.ensures.left g.F.OpenFromFiles.first c.in_ok-conn.conn c.in_ok-conn.ensures.found (λ clean left may. may)
