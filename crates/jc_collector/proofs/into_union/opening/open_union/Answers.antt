-- What a stop left of the present database is noted, and what a crash leaves meanwhile is opened again.
use Rattle.std.proofs.Common.{◌≡◌, [], arith, inl, inr, subst, sym, ⊎_elim}
use Rattle.std.specs.Prelude.{⊤}
use Rattle.jc_base.specs.Journal.{Journal}
use Rattle.jc_ledger.specs.Kept.{IsKept}
use Rattle.jc_ledger.specs.LaggingLaws.{none_pending, noted_alone, tells_alone}
use Rattle.jc_store.specs.CrashLaws.{durable_in, journals_if_sound}
use Rattle.jc_store.specs.Meaning.{IsSound, journal_of}
use Rattle.jc_collector.specs.UnionLaws.{alike}
use Rattle.jc_collector.specs.UnionOpened.{MayStop}
use Rattle.jc_collector.proofs.Results.{both_sound, if_err_of, ok_each, on_each, on_ok_while}
use Rattle.jc_collector.proofs.into_union.opening.open_union.Goals as goal

pub returns-clause-made : goal.returns-clause-made
returns-clause-made g c = λ may none.
    let listed = c.list_present-present.ensures in
    let noted = c.note_listed-opened.ensures.notes in
    let lag = may.lags in
    let before = journal_of g.T.Layout.meaning g.S.Store c.args.present.conn in
    on_ok_while c.note_listed-opened.result
    (IsSound g.S.Store c.list_present-present.result.0.conn × (g.L.Ledger.sound c.note_listed-opened.new.ledger × ⊤))
    (IsKept (g.L.Ledger.known c.note_listed-opened.new.ledger) g.P.Past.journal before (g.L.Ledger.came c.note_listed-opened.new.ledger))
    (MayStop before) _
    (λ sounds. noted.kept (g.met.L.Ledger.clean_if_sound _ sounds.1.0) none g.P.Past.journal lag.noted before lag.kept lag.lags
    (listed.text may.sound may.made sounds.0, listed.lawful may.sound may.made sounds.0))
    (λ kept. (
      listed.keeps.made may.made,
      (
        tt,
        (
          tt,
          λ sounds. none_pending c.new-pending.result.items c.new-pending.ensures.items (noted_alone c.new-waiting.result c.new-waiting.ensures.empty
              (subst (λ (m : Journal). IsKept (g.L.Ledger.known c.note_listed-opened.new.ledger) g.P.Past.journal m (g.L.Ledger.came c.note_listed-opened.new.ledger))
              (sym (listed.keeps.same may.sound may.made sounds.0)) (kept sounds))),
        ),
      ),
    ))

pub returns-clause-sound : goal.returns-clause-sound
returns-clause-sound g c = λ clean.
    let noted = c.note_listed-opened.ensures.notes in
    both_sound c.list_present-present.result.1 c.note_listed-opened.result _ _ _ c.note_listed-opened.ensures.listed (c.list_present-present.ensures.sound clean.0)
    (noted.sound clean.1.0) (λ k_sound l_sound. (k_sound, (l_sound, (tt, clean.1.1.1))))

pub returns-clause-recovers : goal.returns-clause-recovers
returns-clause-recovers g c = λ clean may l_sound.
    let listed = c.list_present-present.ensures in
    let noted = c.note_listed-opened.ensures.notes in
    let text = c.list_present-present.result.1 in
    let lag = may.lags in
    let before = journal_of g.T.Layout.meaning g.S.Store c.args.present.conn in
    let there = listed.sound clean.0 in (
      record { each = λ left is. (journals_if_sound g.T.Layout.meaning g.S.Store g.met.S.Store.settled c.args.present.conn may.sound may.made).each left (listed.crash clean.0 left is) },
      λ now known in_database tells.
          let in_ledger = tells_alone (g.L.Ledger.may_leave c.note_listed-opened.new.ledger) (g.L.Ledger.sound c.note_listed-opened.new.ledger × (c.new-pending.result.items ≡ [])) (g.L.Ledger.known c.note_listed-opened.new.ledger)
          c.new-waiting.result c.new-waiting.ensures.empty tells in
          rw (durable_in g.T.Layout.meaning g.S.Store g.met.S.Store.settled c.args.present.conn may.sound may.made g.met.T.Layout.reads_once now (record { trees = in_database.trees; left = listed.crash clean.0 in_database.trees in_database.left; is = in_database.is }))
          (⊎_elim (λ was. alike lag known (g.met.L.Ledger.durable _ known l_sound was) noted.comes) (λ found. found)
          (noted.crash clean.1.0 clean.1.1.1 g.P.Past.journal lag.noted before lag.kept lag.lags (
            ok_each text _ _ there (λ sound. listed.text may.sound may.made sound),
            on_each text _ _ there (λ sound. listed.lawful may.sound may.made sound),
          ) known in_ledger)),
    )

pub returns-clause-left : goal.returns-clause-left
returns-clause-left g c = λ clean may found is.
    durable_in g.T.Layout.meaning g.S.Store g.met.S.Store.settled c.args.present.conn may.sound may.made g.met.T.Layout.reads_once found
    (record { trees = is.trees; left = c.list_present-present.ensures.crash clean is.trees is.left; is = is.is })

pub returns-clause-clean : goal.returns-clause-clean
returns-clause-clean g c = λ clean. (omega (arith, c.list_present-present.ensures.clean, clean.0), c.note_listed-opened.ensures.notes.was_clean clean.1.0)

pub returns-clause-failed : goal.returns-clause-failed
returns-clause-failed g c = λ clean may.
    let listed = c.list_present-present.ensures in
    let text = c.list_present-present.result.1 in
    let lag = may.lags in
    let there = listed.sound clean.0 in
    if_err_of c.note_listed-opened.result _ _
    (c.note_listed-opened.ensures.notes.kept clean.1.0 clean.1.1.1 g.P.Past.journal lag.noted
    (journal_of g.T.Layout.meaning g.S.Store c.args.present.conn) lag.kept lag.lags (
      ok_each text _ _ there (λ sound. listed.text may.sound may.made sound),
      on_each text _ _ there (λ sound. listed.lawful may.sound may.made sound),
    ))

pub returns-clause-store : goal.returns-clause-store
returns-clause-store g c = λ is.
    ⊎_elim (λ text. inl (c.list_present-present.ensures.counted text)) (λ rose. inr rose) (c.note_listed-opened.ensures.store is)

pub returns-clause-never_read : goal.returns-clause-never_read
returns-clause-never_read g c = λ is. c.list_present-present.ensures.never_read (c.note_listed-opened.ensures.read is)

pub returns-clause-ledger : goal.returns-clause-ledger
returns-clause-ledger g c = c.note_listed-opened.ensures.notes.was_sound

pub returns-clause-owners : goal.returns-clause-owners
returns-clause-owners g c = c.note_listed-opened.ensures.owners

pub returns-clause-comes : goal.returns-clause-comes
returns-clause-comes g c = c.note_listed-opened.ensures.notes.comes

pub returns-clause-journal : goal.returns-clause-journal
returns-clause-journal g c = c.list_present-present.ensures.keeps

pub returns-clause-before : goal.returns-clause-before
returns-clause-before g c = c.list_present-present.ensures.before
