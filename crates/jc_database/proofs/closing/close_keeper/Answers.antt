-- The last commit is in the files, and it is the journal. If the close fails, a crash leaves what it might have left before.
use Rattle.std.proofs.Common.{◌≡◌, IsTrue, arith, subst, sym}
use Rattle.std.proofs.lemmas.Result.{IfErr-weaker, IfOk-weaker}
use Rattle.sqlite.specs.State.{HasCleanDisk}
use Rattle.sqlite.specs.Effect.{IsDatabase}
use Rattle.sqlite.specs.Held.{Held, state}
use Rattle.jc_database.specs.Files.{IsCopied, IsGivenBack}
use Rattle.jc_database.proofs.Left.{durable_left, journal_left, keeps_always, was_sound}
use Rattle.jc_database.proofs.closing.close_keeper.Goals as goal

pub returns-clause-keeps : goal.returns-clause-keeps
returns-clause-keeps g c = λ made.
    let keeper = c.args.keeper.conn in
    let same : c.into_connection-conn.result ≡ keeper = c.into_connection-conn.ensures.same in
    IfOk-weaker c.close_connection.result _ _
    (λ files copied clean.
    let it = subst (λ (h : Held _). IsCopied g.F.Store g.F.StoreInFiles.in_files h files) same (copied clean) in
    let is_open = (copied clean).was_open in
    let live : IsDatabase (state g.F.Store keeper).now = subst (λ (h : Held _). IsDatabase (state g.F.Store h).now) same (c.schema-schema.ensures.live is_open).0 in
    keeps_always g.L.Layout.meaning keeper files it live made)
    c.close_connection.ensures.copied

pub returns-clause-sound : goal.returns-clause-sound
returns-clause-sound g c =
    let same = c.into_connection-conn.ensures.same in
    IfOk-weaker c.close_connection.result _ _
    (λ files copied clean. was_sound g.L.Layout.meaning c.args.keeper.conn files
    (subst (λ (h : Held _). IsCopied g.F.Store g.F.StoreInFiles.in_files h files) same (copied clean)))
    c.close_connection.ensures.copied

pub returns-clause-left : goal.returns-clause-left
returns-clause-left g c =
    let m = g.L.Layout.meaning in
    let conn = c.args.keeper.conn in
    let same : c.into_connection-conn.result ≡ conn = c.into_connection-conn.ensures.same in
    IfErr-weaker c.close_connection.result _ _
    (λ failed back numbered.
    let it = subst (λ (h : Held _). IsGivenBack g.F.Store h failed.store) same back in
    let last = failed.store in
    record {
      left = λ lawful journals clean left may. journal_left m conn last it.quiet.outcomes left
          (g.met.F.StoreInFiles.opens_again last numbered (it.sound clean) left may) lawful journals;
      durable = λ sound made clean left may.
          let is_open = subst (λ (h : Held _). IsTrue (state g.F.Store h).is_open) (sym same) sound.is_open in
          let live = subst (λ (h : Held _). IsDatabase (state g.F.Store h).now) same (c.schema-schema.ensures.live is_open).0 in
          durable_left m conn last it.quiet.outcomes left (g.met.F.StoreInFiles.opens_again last numbered (it.sound clean) left may)
          (g.met.F.Store.settled conn.store) sound made live;
    })
    c.close_connection.ensures.failed

pub returns-clause-clean : goal.returns-clause-clean
returns-clause-clean g c =
    let same = c.into_connection-conn.ensures.same in
    IfErr-weaker c.close_connection.result _ _
    (λ failed back clean.
    let it = subst (λ (h : Held _). IsGivenBack g.F.Store h failed.store) same back in
    let early : HasCleanDisk (state g.F.Store c.args.keeper.conn) = omega (arith, it.quiet.clean, clean) in early)
    c.close_connection.ensures.failed
