use Rattle.std.proofs.Common.{◌-◌, length, arith, rules}
use Rattle.std.proofs.lemmas.Grind.{common_steps}
use Rattle.jc_collect.specs.Position.{HasGivenFewer}
use Rattle.jc_collect.proofs.Filling.{filled_few, filled_more}
use Rattle.jc_collect.proofs.head.fill.Goals as goal

pub pieces-preserved : goal.pieces-preserved
pieces-preserved g c =
    let had = c.pieces.invariant in
    let came = c.in_ok-count.ensures in
    let device = g.R.ByteStream in
    record {
      within = grind (arith, common_steps);
      got = filled_more (device.remaining c.args.device.now) (device.remaining c.pieces.device) (device.remaining c.read.new.self)
          c.pieces.came (length c.pieces.bytes - c.pieces.came) c.in_ok-count.count c.pieces.bytes c.read.new.out
          had.within came.within.0 had.got came.bytes.0;
      count = omega (arith, had.count, came.failures.never_falls);
    }

pub returns-in_err-count-clause-few : goal.returns-in_err-count-clause-few
returns-in_err-count-clause-few g c =
    let had = c.pieces.invariant in
    let remaining = g.R.ByteStream.remaining in
    let few : HasGivenFewer (length c.args.bytes.now) (remaining c.args.device.now) (remaining c.read.new.self) =
    filled_few (remaining c.args.device.now) (remaining c.pieces.device) (remaining c.read.new.self) c.pieces.came (length c.args.bytes.now)
    c.pieces.bytes (grind (arith, common_steps)) had.within had.got c.in_err-count.ensures.bytes in
    search rules

pub returns-then-count-eq0-clause-end : goal.returns-then-count-eq0-clause-end
returns-then-count-eq0-clause-end g c = search rules
