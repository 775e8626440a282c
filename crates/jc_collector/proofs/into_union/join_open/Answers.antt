-- What was answered stands in the union, and the export behind it changes nothing. The keeper that was answered over isn't
-- named, so that another one doesn't fit.
use Rattle.std.proofs.Common.{ap, inl, sym, ◌∙◌}
use Rattle.std.specs.Prelude.{⊤}
use Rattle.sqlite.specs.Held.{state}
use Rattle.sqlite.specs.State.{HasCleanDisk}
use Rattle.jc_ledger.specs.Kept.{NoneCollide}
use Rattle.jc_ledger.specs.Owners.{whose_by}
use Rattle.jc_store.specs.Crash.{MayLeave}
use Rattle.jc_store.specs.Meaning.{IsSound, journal_of}
use Rattle.jc_collector.specs.UnionLaws.{faults_over, holds_nothing, holds_through, no_union}
use Rattle.jc_collector.specs.Database.{MayEndNames}
use Rattle.jc_collector.specs.IntoUnion.{UnionStopsBy}
use Rattle.jc_collector_answers.specs.Collected.{those_named, told_within}
use Rattle.jc_collector_answers.specs.CollectedLaws.{some_named}
use Rattle.jc_collector_answers.specs.PrintedLaws.{front_none, named, text_other}
use Rattle.jc_collector_answers.specs.declared.name_lines.NameLines.TheVariants.{MachinesAndUploads}
use Rattle.jc_collector.proofs.Causes.{names_failed}
use Rattle.jc_collector.proofs.Exported.{same_exported}
use Rattle.jc_collector.proofs.IntoUnion.{apart_before, by_answers, holds_stored, kept_same, named_between, names_ended, named_stored, names_over}
use Rattle.jc_collector.proofs.Counted.{printed_behind}
use Rattle.jc_collector.proofs.Open.{clean_before, front_named, on_ok_of_other}
use Rattle.jc_collector.proofs.Results.{IfErr-each, at_err, on_any, on_ok, on_ok_if, value_of_other}
use Rattle.jc_collector.proofs.into_union.join_open.Goals as goal

-- What is sound, or clean, behind the export was so behind the answers.
pub returns-in-Ok-clause-answers : goal.returns-in-Ok-clause-answers
returns-in-Ok-clause-answers g c =
    let opened = c.open_union-union.ensures in
    let kept = c.answer_names_within-answered.ensures.kept in
    let settle = c.settle_after-settled.ensures in
    let none = kept.settled opened.none in
    let exported = c.export_after-done.ensures in
    let then = c.open_union-union.result.union in
    let told = c.answer_names_within-answered.new.keeper in
    let noted = c.settle_after-settled.new.union in
    let last = c.export_after-done.new.keeper.conn in
    let m = g.T.Layout.meaning in record {
      was_sound = λ late.
          let then_sound = kept.was_sound (rw settle.present at (exported.before late.0), (settle.ledger.was.was_sound late.1.0, (tt, apart_before settle.ledger.comes late.1.1.1))) in
          (opened.before then_sound.0, opened.ledger then_sound.1.0);
      was_clean = λ clean.
          opened.clean (kept.was_clean (rw settle.present at (clean_before exported.clean clean.0), (settle.ledger.was.was_clean clean.1.0, (tt, apart_before settle.ledger.comes clean.1.1.1))));
      tables = λ clean may.
          let early = kept.was_clean (rw settle.present at (clean_before exported.clean clean.0), (settle.ledger.was.was_clean clean.1.0, (tt, apart_before settle.ledger.comes clean.1.1.1))) in
          exported.keeps.made (settle.made none (kept.stays_made (on_ok _ _ _ c.in-Ok.is (opened.made may early.1.1.1)))).0;
      is_made = λ clean may.
          let early = kept.was_clean (rw settle.present at (clean_before exported.clean clean.0), (settle.ledger.was.was_clean clean.1.0, (tt, apart_before settle.ledger.comes clean.1.1.1))) in
          let made = settle.made none (kept.stays_made (on_ok _ _ _ c.in-Ok.is (opened.made may early.1.1.1))) in
          on_any c.export_after-done.result _ (
            exported.keeps.made made.0,
            (tt, (tt, λ late. rw (exported.keeps.same (exported.before late.0) made.0 late.0) (made.1.1.1 (exported.before late.0, late.1)))),
          );
      faults = λ clean may.
          IfErr-each c.export_after-done.result MayEndNames _ (names_over _)
          (names_ended c.answer_names_within-answered.result c.settle_after-settled.result c.export_after-done.result
          c.answer_names_within-answered.ensures.failed c.settle_after-settled.ensures.failed c.export_after-done.ensures.failed);
      recovers = λ clean may l_sound.
          let disk = clean_before exported.clean clean.0 in
          let told_clean : HasCleanDisk (state g.S.Store told.present.conn) × (g.L.Ledger.clean told.ledger × (⊤ × NoneCollide (g.L.Ledger.came told.ledger))) =
          (rw settle.present at disk, (settle.ledger.was.was_clean clean.1.0, (tt, apart_before settle.ledger.comes clean.1.1.1))) in
          let early = kept.was_clean told_clean in
          let made = on_ok _ _ _ c.in-Ok.is (opened.made may early.1.1.1) in
          let leaves = settle.recovers none (disk, clean.1) (kept.recovers told_clean made (opened.recovers early may l_sound)) in (
            record { each = λ left is. leaves.0.each left (exported.crash clean.0 left is) },
            λ now known in_database in_ledger.
                leaves.1 now known (record { trees = in_database.trees; left = exported.crash clean.0 in_database.trees in_database.left; is = in_database.is }) in_ledger,
          );
      each = λ clean may l_sound.
          let disk = clean_before exported.clean clean.0 in
          let told_clean : HasCleanDisk (state g.S.Store told.present.conn) × (g.L.Ledger.clean told.ledger × (⊤ × NoneCollide (g.L.Ledger.came told.ledger))) =
          (rw settle.present at disk, (settle.ledger.was.was_clean clean.1.0, (tt, apart_before settle.ledger.comes clean.1.1.1))) in
          let early = kept.was_clean told_clean in
          let made = on_ok _ _ _ c.in-Ok.is (opened.made may early.1.1.1) in
          let told_made = kept.stays_made made in
          let sound = on_ok _ _ _ c.in-Ok.is (opened.sound early) in
          let leaves = settle.recovers none (disk, clean.1) (kept.recovers told_clean made (opened.recovers early may l_sound)) in
          let Was = IsSound g.S.Store then.present.conn × (g.L.Ledger.sound then.ledger × (⊤ × NoneCollide (g.L.Ledger.came then.ledger))) in
          let Told = IsSound g.S.Store told.present.conn × (g.L.Ledger.sound told.ledger × (⊤ × NoneCollide (g.L.Ledger.came told.ledger))) in
          let Late = IsSound g.S.Store last × (g.L.Ledger.sound noted.ledger × (⊤ × NoneCollide (g.L.Ledger.came noted.ledger))) in
          let holds = holds_through (those_named (told_within c.args.most g.Y.System.told) MachinesAndUploads (g.N.Read.remaining c.args.names.now)) g.P.Past.journal (journal_of m g.S.Store c.args.present.conn) (journal_of m g.S.Store then.present.conn)
          (journal_of m g.S.Store told.present.conn) (journal_of m g.S.Store last) Was Told Late (g.L.Ledger.known noted.ledger) (g.L.Ledger.came noted.ledger)
          (MayLeave m g.S.Store then.present.conn) (MayLeave m g.S.Store told.present.conn) (MayLeave m g.S.Store last) (g.L.Ledger.may_leave noted.ledger)
          (opened.journal.same may.sound may.made sound.0) (opened.left early.0 may)
          (λ late. kept_same (exported.keeps.same (exported.before late.0) (settle.made none told_made).0 late.0) (settle.noted none told_made (exported.before late.0, late.1)))
          (λ now known in_database in_ledger.
          leaves.1 now known (record { trees = in_database.trees; left = exported.crash clean.0 in_database.trees in_database.left; is = in_database.is }) (inl in_ledger))
          (λ late. (rw settle.present at (exported.before late.0), (settle.ledger.was.was_sound late.1.0, (tt, apart_before settle.ledger.comes late.1.1.1))))
          (λ late. rw settle.present at (exported.keeps.same (exported.before late.0) (settle.made none told_made).0 late.0))
          (λ found is.
          let before : MayLeave m g.S.Store noted.present.conn found = record { trees = is.trees; left = exported.crash clean.0 is.trees is.left; is = is.is } in
          rw settle.present at before) in
          printed_behind (named (g.N.Read.remaining c.args.names.now)) _ _ _ (λ status. front_named _ _ _ _ status) c.export_after-done.result c.answer_names_within-answered.result
          (value_of_other c.export_after-done.result c.settle_after-settled.result (λ status. status) _ exported.answered settle.answered)
          (text_other _ _ holds _ c.answer_names_within-answered.result _ _
          (holds_stored (g.N.Read.remaining c.args.names.now) g.P.Past.journal (journal_of m g.S.Store then.present.conn) (journal_of m g.S.Store told.present.conn)
          then.pending.items told.pending.items opened.none none c.answer_names_within-answered.result _ _
          (those_named (told_within c.args.most g.Y.System.told) MachinesAndUploads (g.N.Read.remaining c.args.names.now)) Was Told _ _
          (c.answer_names_within-answered.ensures.answers.each told_clean made)));
    }

pub returns-in-Ok-clause-exported : goal.returns-in-Ok-clause-exported
returns-in-Ok-clause-exported g c = λ clean may.
    let opened = c.open_union-union.ensures in
    let kept = c.answer_names_within-answered.ensures.kept in
    let settle = c.settle_after-settled.ensures in
    let none = kept.settled opened.none in
    let exported = c.export_after-done.ensures in
    let early = kept.was_clean (
      rw settle.present at (clean_before exported.clean clean.0),
      (
        settle.ledger.was.was_clean clean.1.0,
        (tt, apart_before settle.ledger.comes clean.1.1.1),
      ),
    ) in
    let made = settle.made none (kept.stays_made (on_ok _ _ _ c.in-Ok.is (opened.made may early.1.1.1))) in
    on_ok_if c.export_after-done.result _ (λ status is. λ late.
    same_exported g.T.Layout.meaning _ _ exported.keeps (exported.before late) made.0 late _ _ _ (is _ (exported.exported late made.0)))

pub returns-in-Ok-clause-settled : goal.returns-in-Ok-clause-settled
returns-in-Ok-clause-settled g c = c.settle_after-settled.ensures.none

pub returns-in-Ok-clause-printed : goal.returns-in-Ok-clause-printed
returns-in-Ok-clause-printed g c =
    value_of_other c.export_after-done.result c.answer_names_within-answered.result (λ status. status) _
    (value_of_other c.export_after-done.result c.settle_after-settled.result (λ status. status) _ c.export_after-done.ensures.answered c.settle_after-settled.ensures.answered)
    c.answer_names_within-answered.ensures.printed

pub returns-in-Ok-clause-quiet : goal.returns-in-Ok-clause-quiet
returns-in-Ok-clause-quiet g c =
    value_of_other c.export_after-done.result c.answer_names_within-answered.result (λ status. status) _
    (value_of_other c.export_after-done.result c.settle_after-settled.result (λ status. status) _ c.export_after-done.ensures.answered c.settle_after-settled.ensures.answered)
    c.answer_names_within-answered.ensures.quiet

pub returns-in-Ok-clause-failed : goal.returns-in-Ok-clause-failed
returns-in-Ok-clause-failed g c =
    IfErr-each c.export_after-done.result MayEndNames UnionStopsBy by_answers
    (names_ended c.answer_names_within-answered.result c.settle_after-settled.result c.export_after-done.result
    c.answer_names_within-answered.ensures.failed c.settle_after-settled.ensures.failed c.export_after-done.ensures.failed)

pub returns-in-Ok-clause-untouched : goal.returns-in-Ok-clause-untouched
returns-in-Ok-clause-untouched g c =
    IfErr-each c.export_after-done.result MayEndNames _ (λ failure out judged. absurd (judged (names_failed failure out)))
    (names_ended c.answer_names_within-answered.result c.settle_after-settled.result c.export_after-done.result
    c.answer_names_within-answered.ensures.failed c.settle_after-settled.ensures.failed c.export_after-done.ensures.failed)

pub returns-in-Err-clause-answers : goal.returns-in-Err-clause-answers
returns-in-Err-clause-answers g c =
    let opened = c.open_union-union.ensures in
    let then = c.open_union-union.result.union in
    let m = g.T.Layout.meaning in record {
      was_sound = λ sound. (opened.before sound.0, opened.ledger sound.1.0);
      was_clean = opened.clean;
      tables = λ clean may. opened.journal.made may.made;
      faults = λ clean may. rw c.why_no_union.ensures (faults_over _ c.in-Err.stop (at_err c.open_union-union.result.opened c.in-Err.stop _ c.in-Err.is (opened.failed clean may)));
      is_made = λ clean may. tt;
      recovers = opened.recovers;
      each = λ clean may l_sound.
          let Was = IsSound g.S.Store then.present.conn × (g.L.Ledger.sound then.ledger × (⊤ × NoneCollide (g.L.Ledger.came then.ledger))) in
          let text = g.N.Read.remaining c.args.names.now in
          let uploads = some_named (told_within c.args.most g.Y.System.told) MachinesAndUploads text in
          front_none _ _
          (holds_nothing (those_named (told_within c.args.most g.Y.System.told) MachinesAndUploads text) uploads.0 uploads.1 g.P.Past.journal (journal_of m g.S.Store c.args.present.conn) (journal_of m g.S.Store then.present.conn) Was
          (g.L.Ledger.known then.ledger) (g.L.Ledger.came then.ledger) (MayLeave m g.S.Store then.present.conn) (g.L.Ledger.may_leave then.ledger)
          (λ sound. opened.journal.same may.sound may.made sound.0) (opened.left clean.0 may)
          (λ now known in_database in_ledger. (opened.recovers clean may l_sound).1 now known in_database (inl in_ledger)));
    }

pub returns-in-Err-clause-failed : goal.returns-in-Err-clause-failed
returns-in-Err-clause-failed g c = rw c.why_no_union.ensures (inl (inl (no_union c.in-Err.stop)))

pub returns-in-Ok-clause-none : goal.returns-in-Ok-clause-none
returns-in-Ok-clause-none g c =
    ap (λ pending. pending.items) c.settle_after-settled.ensures.pending ∙ c.answer_names_within-answered.ensures.kept.settled c.open_union-union.ensures.none

pub returns-in-Err-clause-none : goal.returns-in-Err-clause-none
returns-in-Err-clause-none g c = c.open_union-union.ensures.none

pub returns-in-Err-clause-settled : goal.returns-in-Err-clause-settled
returns-in-Err-clause-settled g c = c.open_union-union.ensures.settled

pub returns-in-Ok-clause-brought : goal.returns-in-Ok-clause-brought
returns-in-Ok-clause-brought g c = λ late may.
    let opened = c.open_union-union.ensures in
    let kept = c.answer_names_within-answered.ensures.kept in
    let settle = c.settle_after-settled.ensures in
    let none = kept.settled opened.none in
    let exported = c.export_after-done.ensures in
    let then = c.open_union-union.result.union in
    let told = c.answer_names_within-answered.new.keeper in
    let m = g.T.Layout.meaning in
    let told_sound : IsSound g.S.Store told.present.conn × (g.L.Ledger.sound told.ledger × (⊤ × NoneCollide (g.L.Ledger.came told.ledger))) =
    (rw settle.present at (exported.before late.0), (settle.ledger.was.was_sound late.1.0, (tt, apart_before settle.ledger.comes late.1.1.1))) in
    let then_sound = kept.was_sound told_sound in
    let made = on_ok _ _ _ c.in-Ok.is (opened.made may then_sound.1.1.1) in
    rw (sym (opened.owners then_sound.1.0), settle.ledger.owners late.1.0)
    (value_of_other c.export_after-done.result c.answer_names_within-answered.result (λ status. status) _
    (value_of_other c.export_after-done.result c.settle_after-settled.result (λ status. status) _ exported.answered settle.answered)
    (named_between (told_within c.args.most g.Y.System.told) (whose_by (g.L.Ledger.owner _)) (whose_by (g.L.Ledger.owner _)) (g.N.Read.remaining c.args.names.now) g.P.Past.journal _ _ _ _ c.answer_names_within-answered.result _ _
    (opened.journal.same may.sound may.made then_sound.0) (rw settle.present at (exported.keeps.same (exported.before late.0) (settle.made none (kept.stays_made made)).0 late.0))
    (named_stored (g.N.Read.remaining c.args.names.now) g.P.Past.journal (journal_of m g.S.Store then.present.conn) (journal_of m g.S.Store told.present.conn)
    then.pending.items told.pending.items opened.none none c.answer_names_within-answered.result _ _
    (told_within c.args.most g.Y.System.told) (whose_by (g.L.Ledger.owner then.ledger)) (whose_by (g.L.Ledger.owner told.ledger))
    (c.answer_names_within-answered.ensures.brought told_sound made))))

pub returns-in-Ok-clause-noted : goal.returns-in-Ok-clause-noted
returns-in-Ok-clause-noted g c = λ clean.
    on_ok_of_other c.export_after-done.result c.settle_after-settled.result _ c.export_after-done.ensures.answered (c.settle_after-settled.ensures.sound clean)
