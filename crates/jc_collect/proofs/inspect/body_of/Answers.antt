-- The entry that came is the last one given, or the first that passes a bound.
use Rattle.std.proofs.Common.{◌+◌, Some, rules, subst, sym}
use Rattle.jc_base.specs.declared.id.Key.{Key}
use Rattle.jc_collect.proofs.Inspecting.{GivesOn, ending_given, entry_over, entry_taken, fault_given}
use Rattle.jc_collect.proofs.inspect.body_of.Goals as goal

pub entries-preserved : goal.entries-preserved
entries-preserved g c =
    let remaining = g.S.EntrySource.remaining in
    let entry = c.in-Entry.entry in
    let bounds = c.args.bounds.now in
    let touched = c.in_ok-touching-in-Entry.ensures in
    record {
      given = subst (λ (k : Key). GivesOn bounds (remaining c.args.source.now) (c.entries.count + 1) (Some k) c.in-Some.less c.touch.new.self.windows.keys (remaining c.next.new.self))
          (sym c.key.ensures.part)
          (entry_taken bounds (remaining c.args.source.now) (remaining c.entries.source) (remaining c.next.new.self) c.entries.count c.entries.last
          c.entries.room c.in-Some.less c.entries.touched.windows.keys c.touch.new.self.windows.keys entry c.in_ok-step.step c.in_ok-touching-in-Entry.touching
          c.entries.invariant.given c.in-Entry.is c.in_ok-step.ensures.gives touched.windows touched.count c.in-Some.ensures);
      counted = touched.count;
      bound = search rules;
    }

pub returns-in-None-clause-has : goal.returns-in-None-clause-has
returns-in-None-clause-has g c =
    let remaining = g.S.EntrySource.remaining in
    let touched = c.in_ok-touching-in-Entry.ensures in
    entry_over c.args.bounds.now (remaining c.args.source.now) (remaining c.entries.source) (remaining c.next.new.self) c.entries.count
    c.entries.last c.entries.room c.entries.touched.windows.keys c.touch.new.self.windows.keys c.in-Entry.entry c.in_ok-step.step c.in_ok-touching-in-Entry.touching
    _ c.entries.invariant.given c.in-Entry.is c.in_ok-step.ensures.gives touched.windows touched.count c.in-None.ensures

pub returns-in-End-clause-has : goal.returns-in-End-clause-has
returns-in-End-clause-has g c =
    let remaining = g.S.EntrySource.remaining in
    ending_given c.args.bounds.now (remaining c.args.source.now) (remaining c.entries.source) (remaining c.next.new.self) c.entries.count
    c.entries.last c.entries.room c.entries.touched.windows.keys c.entries.windows c.in-End.left c.in_ok-step.step c.entries.invariant.given
    c.entries.invariant.counted c.in-End.is c.in_ok-step.ensures.gives

pub returns-in-Bad-clause-has : goal.returns-in-Bad-clause-has
returns-in-Bad-clause-has g c =
    let remaining = g.S.EntrySource.remaining in
    fault_given c.args.bounds.now (remaining c.args.source.now) (remaining c.entries.source) (remaining c.next.new.self) c.entries.count
    c.entries.last c.entries.room c.entries.touched.windows.keys c.entries.windows c.in-Bad.fault c.in_ok-step.step c.entries.invariant.given
    c.entries.invariant.counted c.in-Bad.is c.in_ok-step.ensures.gives
