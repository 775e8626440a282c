-- Windows in turn, until none is left.
use Rattle.std.proofs.Common.{None, [], inl, rules}
use Rattle.jc_command_shared.specs.DeedLaws.{changes_then, nothing_changes}
use Rattle.jc_sequences.specs.Placed.{path_of}
use Rattle.jc_notes.specs.Changed.{IsKeptFront}
use Rattle.jc_notes.specs.declared.lines.Front.{Front}
use Rattle.jc_notes.proofs.Working.{all_done, err_is, gives_up, none_done, one_done}
use Rattle.jc_notes.proofs.forgetting.keep_fronts.Goals as goal

abbrev none_there : Front
none_there = record { window = record { sequence = record { 0 = [] }; window = 0 }; count = 0 }

pub loop-front-init : goal.loop-front-init
loop-front-init g c = record {
  touched = nothing_changes (g.R.System.deeds c.args.rt.now);
  kept = none_done (IsKeptFront g.R.System.found c.args.folder.now) None (g.R.System.deeds c.args.rt.now);
}

pub loop-front-preserved : goal.loop-front-preserved
loop-front-preserved g c = record {
  touched = changes_then c.loop-front.invariant.touched c.keep_front.ensures.touched;
  kept = one_done (IsKeptFront g.R.System.found c.args.folder.now) c.args.fronts.now c.loop-front.front-index none_there None None None
      (g.R.System.deeds c.args.rt.now) (g.R.System.deeds c.loop-front.rt) (g.R.System.deeds c.keep_front.new.rt)
      c.loop-front-test.true c.loop-front.invariant.kept c.in_ok-keep_front.ensures.kept;
}

pub returns-clause-kept : goal.returns-clause-kept
returns-clause-kept g c =
    all_done (IsKeptFront g.R.System.found c.args.folder.now) c.args.fronts.now c.loop-front.front-index None None
    (g.R.System.deeds c.args.rt.now) (g.R.System.deeds c.loop-front.rt) (search rules) c.loop-front.invariant.kept

pub returns-in_err-keep_front-clause-stopped : goal.returns-in_err-keep_front-clause-stopped
returns-in_err-keep_front-clause-stopped g c =
    err_is c.from_residual.result
    (gives_up (IsKeptFront g.R.System.found c.args.folder.now) (λ front. path_of c.args.folder.now front.window) c.args.fronts.now c.loop-front.front-index none_there None None
    (g.R.System.deeds c.args.rt.now) (g.R.System.deeds c.loop-front.rt) (g.R.System.deeds c.keep_front.new.rt)
    c.loop-front-test.true c.loop-front.invariant.kept (inl c.in_err-keep_front.ensures.stays))
