use Rattle.std.proofs.Common.{◌≡◌, ◌+◌, ◌≤◌, length}
use Rattle.jc_collect.proofs.Inspecting.{GivesOn}
use Rattle.jc_collect.proofs.inspect.body_of.Given as goal

abbrev pub invariant-entries : goal.invariant-entries
invariant-entries g l =
    let source = g.S.EntrySource in
    record {
      given : GivesOn l.fn.bounds (source.remaining l.fn.source) l.count l.last l.room l.touched.windows.keys (source.remaining l.source);
      counted : l.windows ≡ length l.touched.windows.keys;
      bound : l.count + source.bound l.source ≤ source.bound l.fn.source;
    }

abbrev pub decreases-entries : goal.decreases-entries
decreases-entries g l = g.S.EntrySource.bound l.source
