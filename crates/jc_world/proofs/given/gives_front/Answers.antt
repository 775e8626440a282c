use Rattle.std.proofs.Common.{◌≡◌, Bool, false, IsTrue, Ok, subst, rules, arith}
use Rattle.jc_base.specs.Source.{Gives}
use Rattle.jc_base.specs.declared.source.Step.{Step}
use Rattle.jc_world.proofs.Gathering.{differs, follows_more}
use Rattle.jc_world.proofs.given.gives_front.Goals as goal

no_truth : ¬ (IsTrue false)
no_truth t = cc

not_both : (b : Bool) → b ≡ false → ¬ (IsTrue b)
not_both b e t = cc

pub returns-then-not-same-clause-front : goal.returns-then-not-same-clause-front
returns-then-not-same-clause-front g c = λ reading known.
    let source = g.S.EntrySource in
    let gives = subst (λ (step : Step). Gives (source.remaining c.entries.source) (source.remaining c.next.new.self) (Ok step)) c.in-Entry.is c.in_ok-step.ensures.gives in (
      λ f. absurd (no_truth f),
      λ reads. absurd (differs (source.remaining c.args.source.now) (source.remaining c.entries.source) (source.remaining c.next.new.self)
          c.args.entries.now c.entries.rest.now c.in-Some.others.now c.in-Some.first.now c.in-Entry.entry c.entries.invariant.follows gives
          c.in-Some.ensures.cases.0 (λ e. not_both c.same.result c.if-not-same.true (c.same.ensures.1 e)) reading known reads),
    )

pub entries-preserved : goal.entries-preserved
entries-preserved g c =
    let source = g.S.EntrySource in
    let gives = subst (λ (step : Step). Gives (source.remaining c.entries.source) (source.remaining c.next.new.self) (Ok step)) c.in-Entry.is c.in_ok-step.ensures.gives in
    record {
      follows = follows_more (source.remaining c.args.source.now) (source.remaining c.entries.source) (source.remaining c.next.new.self)
          c.args.entries.now c.entries.rest.now c.in-Some.others.now c.in-Some.first.now c.in-Entry.entry c.entries.invariant.follows gives
          c.in-Some.ensures.cases.0 (c.same.ensures.0 c.if-not-same.false);
      failures = omega (arith, c.entries.invariant.failures, c.next.ensures.cause.never_falls);
      last = search (rules, c.entries.invariant.last, c.next.ensures.last, c.in_ok-step.ensures.last);
    }
