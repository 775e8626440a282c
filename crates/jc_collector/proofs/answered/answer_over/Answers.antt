-- What was answered stands over the database that was found, and the export behind it changes nothing.
use Rattle.std.proofs.Common.{inr, OnOk, subst}
use Rattle.jc_base.specs.Journal.{Journal}
use Rattle.jc_collector.specs.Counted.{PrintsCounted}
use Rattle.jc_collector.specs.Database.{IsOutFailure, MayStop}
use Rattle.jc_collector.specs.OverFiles.{CollectsAll, KeepsStored}
use Rattle.jc_collector_answers.specs.Answered.{KeepsFirst, KeepsPrinted}
use Rattle.jc_command_shared.specs.declared.failure.Failure.TheVariants.{WriteFailed}
use Rattle.jc_collector.specs.PrintedLaws.{whole}
use Rattle.jc_collector.proofs.Counted.{counted_other, printed_behind, printed_other}
use Rattle.jc_collector.proofs.Open.{all_first, clean_before, failed_before, front_counted, holds_open, less_left, on_ok_each, on_ok_of_other}
use Rattle.jc_collector.proofs.Exported.{stands_exported}
use Rattle.jc_collector.proofs.OverFiles.{stands_over}
use Rattle.jc_collector.proofs.Results.{IfOk-each, failure_of_other, on_ok_if, value_of_other}
use Rattle.jc_collector.proofs.answered.answer_over.Goals as goal

pub returns-clause-clean : goal.returns-clause-clean
returns-clause-clean g c = λ clean. c.answer-answered.ensures.kept.was_clean (clean_before c.export_after.ensures.clean clean)

pub returns-clause-answers : goal.returns-clause-answers
returns-clause-answers g c =
    let m = g.L.Layout.meaning in
    let old = g.O.Write.contents c.args.output.now in
    let new = g.O.Write.contents c.answer-answered.new.output in
    let first = c.args.keeper.now.conn in
    let last = c.export_after.new.keeper.conn in
    let answered = c.answer-answered.ensures in
    let exported = c.export_after.ensures in
    let counts = g.U.Uploads.counts c.args.uploads in record {
      kept = stands_over m first _ last answered.kept.was_sound answered.kept.stays_made KeepsStored answered.kept.stored exported.before exported.keeps;
      each = λ clean before begin.
          let mid = clean_before exported.clean clean in
          let it = begin (answered.kept.was_clean mid) in
          let holds = holds_open m first _ last before it.0 it.1 (c.sound_leaves_journals.ensures.durable it.0 it.1.made) (answered.kept.stays_made it.1.made)
          exported.before exported.keeps exported.crash clean (g.U.Uploads.are g.Y.System.told c.args.uploads) in
          printed_behind (PrintsCounted counts) _ old new (front_counted counts _ old new) c.export_after.result c.answer-answered.result exported.answered
          (printed_other counts _ _ holds old new c.answer-answered.result (answered.answers.each mid it.1.made));
      recovers = λ clean before begin.
          let mid = clean_before exported.clean clean in
          let it = begin (answered.kept.was_clean mid) in
          let journals = answered.kept.recovers mid it.1.made (c.sound_leaves_journals.ensures.journals it.0 it.1.made) in record {
            made = exported.keeps.made (answered.kept.stays_made it.1.made);
            journals = record { each = λ left may. journals.each left (exported.crash clean left may) };
          };
    }

pub returns-clause-collected : goal.returns-clause-collected
returns-clause-collected g c = λ known have.
    let m = g.L.Layout.meaning in
    let old = g.O.Write.contents c.args.output.now in
    let new = g.O.Write.contents c.answer-answered.new.output in
    let first = c.args.keeper.now.conn in
    let last = c.export_after.new.keeper.conn in
    let answered = c.answer-answered.ensures in
    let exported = c.export_after.ensures in record {
      collected = on_ok_if c.export_after.result _ (λ status is.
          stands_over m first _ last answered.kept.was_sound answered.kept.stays_made (CollectsAll known old new)
          (λ now made. is _ (on_ok_of_other c.export_after.result c.answer-answered.result _ exported.answered (answered.collected known have now made)))
          exported.before exported.keeps);
      crash = λ clean before begin found may.
          let mid = clean_before exported.clean clean in
          let it = begin (answered.kept.was_clean mid) in
          let there = less_left m first _ last before it.0 it.1 (c.sound_leaves_journals.ensures.durable it.0 it.1.made) (answered.kept.stays_made it.1.made)
          exported.before exported.keeps exported.crash clean found may in
          on_ok_of_other c.export_after.result c.answer-answered.result _ exported.answered
          (subst (λ (journal : Journal). OnOk c.answer-answered.result (KeepsPrinted known journal old new found)) it.1.is
          (answered.crash known have mid it.0 it.1.made tt found there));
      crash_unprinted = λ clean before begin found may.
          let mid = clean_before exported.clean clean in
          let it = begin (answered.kept.was_clean mid) in
          let there = less_left m first _ last before it.0 it.1 (c.sound_leaves_journals.ensures.durable it.0 it.1.made) (answered.kept.stays_made it.1.made)
          exported.before exported.keeps exported.crash clean found may in
          let printed = subst (λ (journal : Journal). OnOk c.answer-answered.result (KeepsPrinted known journal old new found)) it.1.is
          (answered.crash known have mid it.0 it.1.made tt found there) in
          failed_before c.export_after.result c.answer-answered.result WriteFailed (KeepsFirst known before old new found) exported.passed_on
          (on_ok_each c.answer-answered.result _ _ (all_first known before old new found) printed)
          (λ failed. subst (λ (journal : Journal). KeepsFirst known journal old new found) it.1.is
          (answered.crash_unprinted known have mid it.0 it.1.made tt found there failed));
    }

pub returns-clause-printed : goal.returns-clause-printed
returns-clause-printed g c =
    let old = g.O.Write.contents c.args.output.now in
    let new = g.O.Write.contents c.answer-answered.new.output in
    let counts = g.U.Uploads.counts c.args.uploads in
    value_of_other c.export_after.result c.answer-answered.result (λ status. status) _ c.export_after.ensures.answered
    (IfOk-each c.answer-answered.result _ _ (λ status it. counted_other counts _ _ (λ answers owned. tt) old new status it)
    (whole (PrintsCounted counts) _ old new c.answer-answered.result c.answer-answered.ensures.answers.owner))

pub returns-clause-quiet : goal.returns-clause-quiet
returns-clause-quiet g c =
    value_of_other c.export_after.result c.answer-answered.result (λ status. status) _ c.export_after.ensures.answered c.answer-answered.ensures.quiet

pub returns-clause-stopped : goal.returns-clause-stopped
returns-clause-stopped g c =
    failure_of_other c.export_after.result c.answer-answered.result IsOutFailure (MayStop g.U.Uploads.are_read) c.export_after.ensures.failed
    c.answer-answered.ensures.stopped (λ failure out. inr out)

pub returns-clause-exported : goal.returns-clause-exported
returns-clause-exported g c =
    let answered = c.answer-answered.ensures in
    let exported = c.export_after.ensures in
    on_ok_if c.export_after.result _ (λ status is.
    stands_exported g.L.Layout.meaning c.args.keeper.now.conn _ c.export_after.new.keeper.conn answered.kept.was_sound answered.kept.stays_made
    exported.before exported.keeps _ _ _ (λ sound made. is _ (exported.exported sound made)))
