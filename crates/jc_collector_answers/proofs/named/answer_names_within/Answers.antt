-- One group more is answered, until there is none.
use Rattle.std.proofs.Common.{◌∙◌, ℕ, List, Option, refl, rules, subst, sym}
use Rattle.std.proofs.KnownBytes.{Keeps-refl, Keeps-trans}
use Rattle.jc_collector_answers.specs.Answered.{worse}
use Rattle.jc_collector_answers.specs.Collected.{told_within}
use Rattle.jc_collector_answers.proofs.Collecting.{SoFar, front_on, given_on, kept_on, so_far_brought, so_far_first, so_far_front, so_far_named}
use Rattle.jc_collector_answers.proofs.Grouping.{goes_on_false, goes_on_true, on_ok, quiet_given}
use Rattle.jc_collector_answers.proofs.Kept.{kept_same}
use Rattle.jc_collector_answers.proofs.Successive.{success_of}
use Rattle.jc_collector_answers.proofs.named.answer_names_within.Goals as goal

pub groups-init : goal.groups-init
groups-init g c = record {
  quiet = λ is. Keeps-refl (g.E.Write.contents c.args.errors.now);
  kept = kept_same g.K.Keeper c.args.keeper.now;
  answers = so_far_first (told_within c.args.most_windows g.R.System.told) c.args.lines (g.L.Read.remaining c.args.names.now) g.K.Keeper c.args.keeper.now (g.O.Write.contents c.args.output.now);
  none = c.new-gathered.ensures;
}

pub groups-preserved : goal.groups-preserved
groups-preserved g c =
    let k = g.K.Keeper in
    let text = g.L.Read.remaining c.args.names.now in
    let next = g.L.Read.remaining c.gather_lines-more.new.names in
    let old = g.O.Write.contents c.args.output.now in
    let new = g.O.Write.contents c.answer_gathered.new.output in
    let first = c.args.keeper.now in
    let late = c.answer_gathered.new.keeper in
    let took = c.gather_lines-more.ensures.took in
    let answered = c.in_ok-answered.answered in
    let gives = c.in_ok-answered.ensures.gives in
    record {
      quiet = λ is.
          let both = success_of c.groups.status answered (sym c.worse-status.ensures ∙ is) in
          Keeps-trans (g.E.Write.contents c.args.errors.now) (g.E.Write.contents c.groups.errors) (g.E.Write.contents c.gather_lines-more.new.errors) (c.groups.invariant.quiet both.0)
          (on_ok c.gather_lines-more.result c.in-Ok-true.field-0 c.in-Ok-true.is c.gather_lines-more.ensures.quiet (quiet_given k _ _ _ answered _ _ gives both.1));
      kept = kept_on c.one_saying.ensures c.groups.invariant.kept c.groups.invariant.answers c.gather_lines-more.ensures.took c.default-limits.ensures (g.met.K.Keeper.clean_if_sound late) gives;
      answers = rw c.worse-status.ensures
          (subst (λ (r : Option (List ℕ)). SoFar (told_within c.args.most_windows g.R.System.told) c.args.lines text k r first late (worse c.groups.status answered) old new)
          (goes_on_true c.gather_lines-more.result took.rest next c.in-Ok-true.field-0 c.in-Ok-true.is (search rules) took.goes_on)
          (given_on c.one_saying.ensures c.groups.invariant.kept c.groups.invariant.answers c.gather_lines-more.ensures.took c.default-limits.ensures answered gives));
      none = c.in_ok-answered.ensures.none;
    }

-- ---- printing failed

pub returns-in_err-answered-clause-kept : goal.returns-in_err-answered-clause-kept
returns-in_err-answered-clause-kept g c =
    kept_on c.one_saying.ensures c.groups.invariant.kept c.groups.invariant.answers c.gather_lines-more.ensures.took c.default-limits.ensures
    (g.met.K.Keeper.clean_if_sound c.answer_gathered.new.keeper) c.in_err-answered.ensures.gives

pub returns-in_err-answered-clause-answers : goal.returns-in_err-answered-clause-answers
returns-in_err-answered-clause-answers g c =
    front_on c.one_saying.ensures c.groups.invariant.kept c.groups.invariant.answers c.gather_lines-more.ensures.took c.default-limits.ensures
    _ c.from_residual.result c.in_err-answered.ensures.gives c.from_residual.ensures.0

-- ---- no line is left

pub returns-in-Ok-false-clause-kept : goal.returns-in-Ok-false-clause-kept
returns-in-Ok-false-clause-kept g c =
    kept_on c.one_saying.ensures c.groups.invariant.kept c.groups.invariant.answers c.gather_lines-more.ensures.took c.default-limits.ensures
    (g.met.K.Keeper.clean_if_sound c.answer_gathered.new.keeper) c.in_ok-answered.ensures.gives

pub returns-in-Ok-false-clause-answers : goal.returns-in-Ok-false-clause-answers
returns-in-Ok-false-clause-answers g c =
    let took = c.gather_lines-more.ensures.took in
    rw c.worse-status.ensures
    (so_far_named _ _ _ _ _ _ (returns-in-Ok-false-clause-kept g c) _ _ _ _
    (given_on c.one_saying.ensures c.groups.invariant.kept c.groups.invariant.answers c.gather_lines-more.ensures.took c.default-limits.ensures c.in_ok-answered.answered c.in_ok-answered.ensures.gives)
    (goes_on_false c.gather_lines-more.result took.rest (g.L.Read.remaining c.gather_lines-more.new.names) c.in-Ok-false.field-0 c.in-Ok-false.is (search rules) took.goes_on))

pub returns-in-Ok-false-clause-printed : goal.returns-in-Ok-false-clause-printed
returns-in-Ok-false-clause-printed g c = (returns-in-Ok-false-clause-answers g c).owner.shown

pub returns-in-Ok-false-clause-brought : goal.returns-in-Ok-false-clause-brought
returns-in-Ok-false-clause-brought g c = λ is is_made.
    let took = c.gather_lines-more.ensures.took in
    rw c.worse-status.ensures
    (so_far_brought _ _ _ _ _ _ (returns-in-Ok-false-clause-kept g c) _ _ _ _
    (given_on c.one_saying.ensures c.groups.invariant.kept c.groups.invariant.answers c.gather_lines-more.ensures.took c.default-limits.ensures c.in_ok-answered.answered c.in_ok-answered.ensures.gives)
    (goes_on_false c.gather_lines-more.result took.rest (g.L.Read.remaining c.gather_lines-more.new.names) c.in-Ok-false.field-0 c.in-Ok-false.is (search rules) took.goes_on)
    (g.met.K.Keeper.clean_if_sound c.answer_gathered.new.keeper) is is_made)

pub returns-in-Ok-false-clause-quiet : goal.returns-in-Ok-false-clause-quiet
returns-in-Ok-false-clause-quiet g c = λ is.
    let answered = c.in_ok-answered.answered in
    let both = success_of c.groups.status answered (sym c.worse-status.ensures ∙ is) in
    Keeps-trans (g.E.Write.contents c.args.errors.now) (g.E.Write.contents c.groups.errors) (g.E.Write.contents c.gather_lines-more.new.errors) (c.groups.invariant.quiet both.0)
    (on_ok c.gather_lines-more.result c.in-Ok-false.field-0 c.in-Ok-false.is c.gather_lines-more.ensures.quiet
    (quiet_given g.K.Keeper _ _ _ answered _ _ c.in_ok-answered.ensures.gives both.1))

-- ---- reading failed, or memory was refused

pub returns-in-Err-clause-kept : goal.returns-in-Err-clause-kept
returns-in-Err-clause-kept g c =
    kept_on c.one_saying.ensures c.groups.invariant.kept c.groups.invariant.answers c.gather_lines-more.ensures.took c.default-limits.ensures
    (g.met.K.Keeper.clean_if_sound c.answer_gathered.new.keeper) c.in_ok-answered.ensures.gives

pub returns-in-Err-clause-answers : goal.returns-in-Err-clause-answers
returns-in-Err-clause-answers g c =
    so_far_front _ _ _ _ _ _ (returns-in-Err-clause-kept g c) _ _ _ _
    (given_on c.one_saying.ensures c.groups.invariant.kept c.groups.invariant.answers c.gather_lines-more.ensures.took c.default-limits.ensures c.in_ok-answered.answered c.in_ok-answered.ensures.gives) _ refl

pub returns-clause-answers : goal.returns-clause-answers
returns-clause-answers g c = so_far_front _ _ _ _ _ _ c.groups.invariant.kept _ _ _ _ c.groups.invariant.answers _ refl
