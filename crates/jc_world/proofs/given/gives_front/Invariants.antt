use Rattle.std.proofs.Common.{◌≡◌, ◌≤◌, Some, Err}
use Rattle.jc_base.specs.declared.source.Stop.TheVariants.{ReadFailed}
use Rattle.jc_world.proofs.Gathering.{FollowsOn}
use Rattle.jc_world.proofs.given.gives_front.Given as goal

abbrev pub invariant-entries : goal.invariant-entries
invariant-entries g l =
    let source = g.S.EntrySource in
    record {
      follows : FollowsOn (source.remaining l.fn.source) l.fn.entries (source.remaining l.source) l.rest;
      failures : source.failures l.fn.source ≤ source.failures l.source;
      last : source.last l.source ≡ Some (Err ReadFailed) → source.last l.fn.source ≡ Some (Err ReadFailed);
    }

abbrev pub decreases-entries : goal.decreases-entries
decreases-entries g l = g.S.EntrySource.bound l.source
