use Rattle.std.proofs.Common.{arith}
use Rattle.jc_collect.proofs.Heads.{stream_come}
use Rattle.jc_collect.proofs.head.read_head.Goals as goal

pub returns-clause-begins : goal.returns-clause-begins
returns-clause-begins g c =
    let came = c.in_ok-came.ensures in
    let device = g.R.ByteStream in
    c.head_in.ensures.begins (device.remaining c.args.device.now) (device.remaining c.fill.new.device)
    (stream_come c.fill.new.bytes c.in_ok-came.came _ _ (omega arith) came.within came.came came.end)
