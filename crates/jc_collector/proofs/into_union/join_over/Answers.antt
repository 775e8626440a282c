-- What was answered stands in the union, and the present database is closed; or what was printed before a failure is in what
-- is left.
use Rattle.std.proofs.Common.{inl, inr, subst, sym}
use Rattle.std.specs.Prelude.{⊤}
use Rattle.sqlite.specs.Held.{state}
use Rattle.sqlite.specs.State.{HasCleanDisk}
use Rattle.jc_base.specs.Journal.{Journal}
use Rattle.jc_collector_answers.specs.Brought.{CollectsText}
use Rattle.jc_collector_answers.specs.Collected.{StoresFirstOf, those_named, told_within}
use Rattle.jc_collector_answers.specs.PrintedLaws.{named}
use Rattle.jc_collector_answers.specs.Tied.{NamedWith}
use Rattle.jc_collector_answers.specs.declared.name_lines.NameLines.TheVariants.{MachinesAndUploads}
use Rattle.jc_ledger.specs.Kept.{IsKept, NoneCollide}
use Rattle.jc_ledger.specs.Lagging.{MayCatchUp}
use Rattle.jc_ledger.specs.LaggingLaws.{kept_alone, noted_pending}
use Rattle.jc_ledger.specs.Owners.{whose_by}
use Rattle.jc_ledger.specs.Union.{union}
use Rattle.jc_store.specs.Meaning.{IsSound, journal_of}
use Rattle.jc_collector.specs.UnionOpened.{MayOpen}
use Rattle.jc_collector.specs.IntoUnion.{UnionStopsBy}
use Rattle.jc_collector.specs.PrintedLaws.{whole}
use Rattle.jc_collector.specs.UnionLeft.{handed_back}
use Rattle.jc_collector.specs.UnionLeftLaws.{union_left}
use Rattle.jc_collector.proofs.Causes.{failed}
use Rattle.jc_collector.proofs.IntoUnion.{by_answers, front_any, leads_found}
use Rattle.jc_collector.proofs.Results.{IfErr-both, IfOk-both, IfOk-four, at_ok, failure_in_other, on_ok, some_each, value_of_other}
use Rattle.jc_collector.proofs.into_union.join_over.Goals as goal

pub returns-clause-runs : goal.returns-clause-runs
returns-clause-runs g c = λ lawful made first found.
    let closed = c.close_union.ensures in
    let ran = c.join_open-union.ensures.answers in
    let it = c.join_open-union.result.union in
    let answered = c.join_open-union.result.answered in
    let past = g.P.Past.journal in
    let text = g.N.Read.remaining c.args.names.now in
    let named_uploads = those_named (told_within c.args.most_windows g.Y.System.told) MachinesAndUploads text in
    let m = g.T.Layout.meaning in
    let old = g.O.Write.contents c.args.output.now in
    let new = g.O.Write.contents c.join_open-union.new.output in
    let left = union_left (told_within c.args.most_windows g.Y.System.told) made first found ran (λ k_clean l_clean none. (k_clean, (l_clean, (tt, none)))) (λ journals. journals.0) lawful in
    record {
      stored = IfOk-four c.close_union.result _ _ _ _ _
          (λ run done ledger sound keeps. leads_found m made first c.args.present.conn run.files _ _ found
          (λ clean before holds. (ran.was_clean
          ((sound clean).clean, (subst g.L.Ledger.clean ledger holds.1, (tt, subst (λ (l : g.row.L.Denot). NoneCollide (g.L.Ledger.came l)) ledger holds.2)))).0)
          (λ clean before has holds.
          let k_now = sound clean in
          let l_clean = subst g.L.Ledger.clean ledger holds.1 in
          let l_now = on_ok answered run.status _ done (c.join_open-union.ensures.noted l_clean) in
          let none = subst (λ (l : g.row.L.Denot). NoneCollide (g.L.Ledger.came l)) ledger holds.2 in
          let now : IsSound g.F.Store it.present.conn × (g.L.Ledger.sound it.ledger × (⊤ × NoneCollide (g.L.Ledger.came it.ledger))) = (k_now, (l_now, (tt, none))) in
          let now_clean : HasCleanDisk (state g.F.Store it.present.conn) × (g.L.Ledger.clean it.ledger × (⊤ × NoneCollide (g.L.Ledger.came it.ledger))) =
          (k_now.clean, (l_clean, (tt, none))) in
          let was = ran.was_sound now in
          let lag = subst (λ (j : Journal). MayCatchUp (g.L.Ledger.known c.args.ledger) past j (g.L.Ledger.came c.args.ledger)) (sym has.is) holds.0 in
          let may : MayOpen m g.F.Store c.args.present.conn (g.L.Ledger.known c.args.ledger) past (g.L.Ledger.came c.args.ledger) =
          record { sound = was.0; made = has.made; lags = lag } in
          let is_made = on_ok answered run.status _ done (ran.is_made now_clean may) in
          let printed = at_ok answered run.status _ done (whole (named text) _ _ _ answered (ran.each now_clean may was.1)) in
          let after = journal_of m g.F.Store it.present.conn in record {
            found = after;
            is = record {
              kept = subst (λ (l : g.row.L.Denot). IsKept (g.L.Ledger.known l) past after (g.L.Ledger.came l)) (sym ledger)
                  (kept_alone it.waiting c.join_open-union.ensures.settled
                  (noted_pending it.pending.items c.join_open-union.ensures.none (is_made.1.1.1 (k_now, (l_now, tt)))).kept);
              stored = record {
                shown = printed.shown;
                holds = subst (λ (j : Journal). StoresFirstOf named_uploads (union past j) printed.shown.printed.answers (union past after)) has.is (printed.holds.stored now);
              };
              own = subst (λ (l : g.row.L.Denot). NamedWith (CollectsText (told_within c.args.most_windows g.Y.System.told) MachinesAndUploads (whose_by (g.L.Ledger.owner c.args.ledger)) (whose_by (g.L.Ledger.owner l)) text
                  (union past before) (union past after)) text run.status old new) (sym ledger)
                  (subst (λ (j : Journal). NamedWith (CollectsText (told_within c.args.most_windows g.Y.System.told) MachinesAndUploads (whose_by (g.L.Ledger.owner c.args.ledger)) (whose_by (g.L.Ledger.owner it.ledger)) text
                  (union past j) (union past after)) text run.status old new) has.is
                  (at_ok answered run.status _ done (c.join_open-union.ensures.brought now may)));
            };
            keeps = keeps clean is_made.0;
          }))
          closed.answered closed.ledger closed.sound closed.keeps;
      printed = value_of_other c.close_union.result answered (λ run. run.status) _ closed.answered c.join_open-union.ensures.printed;
      quiet = value_of_other c.close_union.result answered (λ run. run.status) _ closed.answered c.join_open-union.ensures.quiet;
      noted = IfOk-both c.close_union.result _ _ _
          (λ run done ledger. λ l_clean.
          subst g.L.Ledger.sound (sym ledger) (on_ok answered run.status _ done (c.join_open-union.ensures.noted (subst g.L.Ledger.clean ledger l_clean))))
          closed.answered closed.ledger;
      left = IfErr-both c.close_union.result _ _ _
          (λ run why some. some_each run.left _ _ some
          (λ it back. some_each it.files _ _ back.1
          (λ files leaves. λ clean l_clean none kind before begin noted.
          let is = left run.failure why (handed_back g.F.StoreInFiles.in_files first files) (leaves first) it.ledger back.0 clean l_clean none kind before begin noted in
          (is.0, front_any _ text old new answered is.1))))
          closed.failed closed.left;
      untouched = failure_in_other c.close_union.result answered (λ run. run.failure) _ _ closed.failed
          c.join_open-union.ensures.untouched (λ failure is judged. absurd (judged (failed failure (inr (inl is)))));
    }

pub returns-clause-exported : goal.returns-clause-exported
returns-clause-exported g c = λ made first found.
    let closed = c.close_union.ensures in
    let ran = c.join_open-union.ensures.answers in
    let it = c.join_open-union.result.union in
    let answered = c.join_open-union.result.answered in
    let past = g.P.Past.journal in
    let m = g.T.Layout.meaning in
    IfOk-four c.close_union.result _ _ _ _ _
    (λ run done ledger sound keeps. leads_found m made first c.args.present.conn run.files _ _ found
    (λ clean before holds. (ran.was_clean
    ((sound clean).clean, (subst g.L.Ledger.clean ledger holds.1, (tt, subst (λ (l : g.row.L.Denot). NoneCollide (g.L.Ledger.came l)) ledger holds.2)))).0)
    (λ clean before has holds.
    let k_now = sound clean in
    let l_clean = subst g.L.Ledger.clean ledger holds.1 in
    let l_now = on_ok answered run.status _ done (c.join_open-union.ensures.noted l_clean) in
    let none = subst (λ (l : g.row.L.Denot). NoneCollide (g.L.Ledger.came l)) ledger holds.2 in
    let now : IsSound g.F.Store it.present.conn × (g.L.Ledger.sound it.ledger × (⊤ × NoneCollide (g.L.Ledger.came it.ledger))) = (k_now, (l_now, (tt, none))) in
    let now_clean : HasCleanDisk (state g.F.Store it.present.conn) × (g.L.Ledger.clean it.ledger × (⊤ × NoneCollide (g.L.Ledger.came it.ledger))) =
    (k_now.clean, (l_clean, (tt, none))) in
    let lag = subst (λ (j : Journal). MayCatchUp (g.L.Ledger.known c.args.ledger) past j (g.L.Ledger.came c.args.ledger)) (sym has.is) holds.0 in
    let may : MayOpen m g.F.Store c.args.present.conn (g.L.Ledger.known c.args.ledger) past (g.L.Ledger.came c.args.ledger) =
    record { sound = (ran.was_sound now).0; made = has.made; lags = lag } in
    record {
      found = journal_of m g.F.Store it.present.conn;
      is = on_ok answered run.status _ done (c.join_open-union.ensures.exported now_clean may) k_now;
      keeps = keeps clean (on_ok answered run.status _ done (ran.is_made now_clean may)).0;
    }))
    closed.answered closed.ledger closed.sound closed.keeps

pub returns-clause-failed : goal.returns-clause-failed
returns-clause-failed g c =
    failure_in_other c.close_union.result c.join_open-union.result.answered (λ run. run.failure) _ UnionStopsBy c.close_union.ensures.failed
    c.join_open-union.ensures.failed (λ failure is. by_answers failure (inr (inr (inl is))))
