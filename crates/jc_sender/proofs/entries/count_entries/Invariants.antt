use Rattle.std.proofs.Common.{◌≡◌, ◌+◌, ◌≤◌, Some, Err}
use Rattle.jc_base.specs.declared.source.Stop.TheVariants.{ReadFailed}
use Rattle.jc_sender.proofs.Gathering.{CountsOn}
use Rattle.jc_sender.proofs.entries.count_entries.Given as goal

abbrev pub invariant-entries : goal.invariant-entries
invariant-entries g l =
    let source = g.S.EntrySource in
    let input = g.S.InputSource in
    record {
      counted : CountsOn (source.remaining l.fn.source) l.count (source.remaining l.source);
      bound : l.count + source.bound l.source ≤ source.bound l.fn.source;
      failures : source.failures l.fn.source ≤ source.failures l.source;
      last : source.last l.source ≡ Some (Err ReadFailed) → source.last l.fn.source ≡ Some (Err ReadFailed);
      limits : input.limits l.source ≡ input.limits l.fn.source;
    }

abbrev pub decreases-entries : goal.decreases-entries
decreases-entries g l = g.S.EntrySource.bound l.source
