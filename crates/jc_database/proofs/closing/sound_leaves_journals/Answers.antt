-- An open connection leaves exactly its last commit, which is a journal.
use Rattle.jc_store.specs.CrashLaws.{durable_in, journals_if_sound}
use Rattle.jc_database.proofs.closing.sound_leaves_journals.Goals as goal

pub returns-clause-journals : goal.returns-clause-journals
returns-clause-journals g c = λ sound made.
    journals_if_sound g.L.Layout.meaning g.F.Store g.met.F.Store.settled c.args.keeper.now.conn sound made

pub returns-clause-durable : goal.returns-clause-durable
returns-clause-durable g c = λ sound made found may.
    durable_in g.L.Layout.meaning g.F.Store g.met.F.Store.settled c.args.keeper.now.conn sound made
    g.met.L.Layout.reads_once found may
