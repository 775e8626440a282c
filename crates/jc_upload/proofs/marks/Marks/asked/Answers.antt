-- At first no entry came, and each position that was inserted is asked for.
use Rattle.std.proofs.Common.{◌≡◌, ◌<◌, ◌^◌, ℕ, refl, subst, arith, take_all}
use Rattle.std.specs.List.{All}
use Rattle.std.specs.Option.{IsSome}
use Rattle.std.specs.Ordering.{nat_cmp}
use Rattle.std.specs.BTreeMap.{get}
use Rattle.jc_upload.specs.Resume.{start}
use Rattle.jc_upload.specs.Upload.{acked_to}
use Rattle.jc_upload.proofs.Marking.{at_start, each_with, ends_more, none_of, none_yet, now_asked, still_asked}
use Rattle.jc_upload.proofs.marks.Marks.asked.Goals as goal
use Rattle.jc_upload.proofs.marks.Marks.asked.Goals.{in-Some+in_ok-insert-2, in_default}

pub loop-answer-init : goal.loop-answer-init
loop-answer-init c =
    let updates = c.in_ok-insert.ensures.updates in
    record {
      none = each_with (λ point. point ≡ start) c.new-points.result c.insert.new.self c.args.position c.default.result updates c.default.ensures
          (none_yet (λ point. point ≡ start) c.new-points.result c.new-points.ensures.empty);
      point = now_asked c.new-points.result c.insert.new.self c.args.position c.default.result updates;
      ends = λ k d h. absurd (omega (arith, h));
    }

pub loop-answer-preserved : goal.loop-answer-preserved
loop-answer-preserved c = elim c.match-acked_to.branch [
  | in-Some+in_ok-insert-2 w ↦
      let updates = w.in_ok-insert-2.ensures.updates in
      let m = c.loop-answer.points in
      let n = w.insert-in-Some.new.self in
      let end = w.in-Some.end in
      let v = w.default-in-Some.result in
      rw w.points-is (record {
        none = each_with (λ point. point ≡ start) m n end v updates w.default-in-Some.ensures c.loop-answer.invariant.none;
        point = still_asked m n end v updates c.args.position c.loop-answer.invariant.point;
        ends = ends_more m n (still_asked m n end v updates) c.args.answers.now c.loop-answer.answer-index _ c.loop-answer-test.true c.loop-answer.invariant.ends
            (λ small. subst (λ (q : ℕ). IsSome (get nat_cmp n q)) w.in-Some.ensures (now_asked m n end v updates));
      })
  | in_default w ↦
      let m = c.loop-answer.points in
      rw w.points-is (record {
        none = c.loop-answer.invariant.none;
        point = c.loop-answer.invariant.point;
        ends = ends_more m m (λ q asked. asked) c.args.answers.now c.loop-answer.answer-index _ c.loop-answer-test.true c.loop-answer.invariant.ends
            (λ small. none_of c.acked_to.result _ _ c.acked_to.ensures w.in_default.not-Some small);
      })
]

pub returns-clause-none : goal.returns-clause-none
returns-clause-none c = record {
  counted = refl;
  points = λ n h. at_start _ n h (c.loop-answer.invariant.none n);
}

pub returns-clause-asked : goal.returns-clause-asked
returns-clause-asked c = record {
  point = c.loop-answer.invariant.point;
  ends = subst (All (λ answer. acked_to answer < 2 ^ 64 → IsSome (get nat_cmp c.loop-answer.points (acked_to answer)))) (take_all c.loop-answer.answer-index c.args.answers.now c.loop-answer-test.false) c.loop-answer.invariant.ends;
}
