-- Keys in turn, until none is left.
use Rattle.std.proofs.Common.{[], length, refl, rules, true, ◌≤◌}
use Rattle.jc_base.specs.declared.id.Key.{Key}
use Rattle.jc_command_shared.specs.declared.status.Status.TheVariants.{Success}
use Rattle.jc_notes.specs.Printed.{IsNotedTold}
use Rattle.jc_notes.proofs.Turns.{all_printed, none_printed, one_printed}
use Rattle.jc_notes.proofs.Working.{on_ok}
use Rattle.jc_notes.proofs.noted.say_each.Goals as goal

abbrev none_there : Key
none_there = record { seqnum_id = record { 0 = [] }; seqnum = 0 }

pub loop-key-init : goal.loop-key-init
loop-key-init g c = record {
  kept = c.new-notes.ensures.none g.R.System.found c.args.folder.now;
  printed = none_printed (IsNotedTold g.R.System.found c.args.folder.now) (g.O.Write.contents c.args.output.now);
}

pub loop-key-preserved : goal.loop-key-preserved
loop-key-preserved g c = record {
  kept = c.say_key.ensures.kept c.loop-key.invariant.kept;
  printed = one_printed (IsNotedTold g.R.System.found c.args.folder.now) c.args.keys.now c.loop-key.key-index none_there Success Success true
      (g.O.Write.contents c.args.output.now) (g.O.Write.contents c.loop-key.output) (g.O.Write.contents c.say_key.new.output)
      c.loop-key-test.true c.loop-key.invariant.printed (c.in_ok-say_key.ensures.printed c.loop-key.invariant.kept) refl;
}

pub returns-clause-printed : goal.returns-clause-printed
returns-clause-printed g c =
    let none : length c.args.keys.now ≤ c.loop-key.key-index = search rules in
    on_ok c.printed.result
    (λ kept. all_printed (IsNotedTold g.R.System.found c.args.folder.now) c.args.keys.now c.loop-key.key-index Success (g.O.Write.contents c.args.output.now)
    (g.O.Write.contents c.loop-key.output) (g.O.Write.contents c.printed.new.output) none c.loop-key.invariant.printed kept.1)
    c.printed.ensures.whole
