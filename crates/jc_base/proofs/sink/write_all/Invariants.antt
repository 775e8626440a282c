use Rattle.std.proofs.Common.{◌≡◌, ◌-◌, length}
use Rattle.jc_base.specs.Device.{WentOut}
use Rattle.jc_base.proofs.sink.write_all.Given as goal

-- a front of the text went out
abbrev pub invariant-loop-at : goal.invariant-loop-at
invariant-loop-at g l = record {
  out : WentOut (g.W.ByteSink.written l.fn.sink) (g.W.ByteSink.written l.sink) l.text l.at;
  stays : g.W.ByteSink.failures l.sink ≡ g.W.ByteSink.failures l.fn.sink;
  borrowed_device : g.W.ByteSink.borrowed_device l.sink ≡ g.W.ByteSink.borrowed_device l.fn.sink;
}

abbrev pub decreases-loop-at : goal.decreases-loop-at
decreases-loop-at g l = length l.text - l.at
