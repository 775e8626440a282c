-- A crash leaves a database of those that the store allows, and each of them is a journal.
use Rattle.std.proofs.Common.{arith, subst}
use Rattle.sqlite.specs.State.{HasCleanDisk}
use Rattle.sqlite.specs.Held.{Held, state}
use Rattle.jc_database.proofs.Left.{journal_left}
use Rattle.jc_database.proofs.closing.stop_keeper.Goals as goal

pub returns-clause-left : goal.returns-clause-left
returns-clause-left g c = λ lawful journals clean left may.
    let last = c.into_store.result in
    journal_left g.L.Layout.meaning c.args.keeper.conn last
    (λ db recovers. subst (λ (h : Held _). (state g.F.Store h).may_leave db) c.into_connection.ensures.same (c.into_store.ensures.quiet.outcomes db recovers))
    left (g.met.F.StoreInFiles.opens_again last (c.into_store.ensures.numbered clean) (c.into_store.ensures.sound clean) left may)
    lawful journals

pub returns-clause-clean : goal.returns-clause-clean
returns-clause-clean g c = λ clean.
    let early : HasCleanDisk (state g.F.Store c.into_connection.result) = omega (arith, c.into_store.ensures.quiet.clean, clean) in
    subst (λ (h : Held _). HasCleanDisk (state g.F.Store h)) c.into_connection.ensures.same early
