-- What a connection has committed is what its store has.
use Rattle.std.proofs.Common.{subst, arith}
use Rattle.std.proofs.lemmas.Result.{IfErr-weaker, IfOk-weaker}
use Rattle.sqlite_rules.proofs.ViewLemmas.{still_quiet}
use Rattle.sqlite.specs.Closing.{HoldsAlone}
use Rattle.jc_database.specs.Files.{IsSoundStore}
use Rattle.jc_database.proofs.closing.close_connection.Goals as goal

pub returns-clause-copied : goal.returns-clause-copied
returns-clause-copied g c =
    let back = c.into_store.ensures in
    let sound : IsSoundStore g.F.Store c.into_store.result = record { numbered = back.numbered; sound = back.sound } in
    IfOk-weaker c.into_files.result _ _
    (λ files written clean.
    let it = written clean in
    let kept = back.undone.kept it.was_clean in
    let same = kept.committed it.was_open in
    record {
      was_clean = omega (arith, back.quiet.clean, it.was_clean);
      was_open = kept.was_open it.was_open;
      seen = subst (HoldsAlone (g.F.StoreInFiles.in_files.image files)) same it.seen;
      left = λ image may. subst (HoldsAlone image) same (it.left image may);
    })
    (c.into_files.ensures.written sound)

pub returns-clause-failed : goal.returns-clause-failed
returns-clause-failed g c =
    let back = c.into_store.ensures in
    IfErr-weaker c.into_files.result _ _
    (λ failed quiet. record {
      quiet = still_quiet back.quiet quiet;
      sound = λ clean db may. back.sound (omega (arith, quiet.clean, clean)) db (quiet.outcomes db may);
    })
    c.into_files.ensures.quiet
