use Rattle.std.proofs.Common.{◌≡◌, ◌+◌, ◌≤◌, ℕ, List, Some, Err}
use Rattle.jc_base.specs.LogEntry.{LogEntry}
use Rattle.jc_base.specs.declared.source.Stop.TheVariants.{ReadFailed}
use Rattle.jc_stream.specs.contracts.stream.StreamEntrySource.TheImpl.{borrowed_device-value, bound-value, failures-value, last-value, remaining-value}
use Rattle.jc_stream.specs.Device.{limits_of}
use Rattle.jc_upload.specs.Excerpt.{AreOfStream}
use Rattle.jc_upload.specs.Marks.{IsAsked, IsMarked}
use Rattle.jc_upload.proofs.Excerpts.{FollowsOn}
use Rattle.jc_upload.proofs.marks.Marks.take_all.Given as goal

abbrev pub invariant-entries : goal.invariant-entries
invariant-entries g l =
    let remaining = (remaining-value g.row.R g.R.ByteStream g.R.ByteStream-dict).it in
    let bound = (bound-value g.row.R g.R.ByteStream g.R.ByteStream-dict).it in
    let failures = (failures-value g.row.R g.R.ByteStream g.R.ByteStream-dict).it in
    let last = (last-value g.row.R g.R.ByteStream g.R.ByteStream-dict).it in
    let borrowed_device = (borrowed_device-value g.row.R g.R.ByteStream g.R.ByteStream-dict).it in
    record {
      given : (entries : List LogEntry) × FollowsOn (remaining l.fn.source) entries (remaining l.source)
          × AreOfStream (limits_of l.fn.source) entries × IsMarked entries l.self;
      asked : (n : ℕ) → IsAsked l.fn.self n → IsAsked l.self n;
      limits : limits_of l.source ≡ limits_of l.fn.source;
      bound : l.self.count + bound l.source ≤ bound l.fn.source;
      failures : failures l.fn.source ≤ failures l.source;
      last : last l.source ≡ Some (Err ReadFailed) → last l.fn.source ≡ Some (Err ReadFailed);
      borrowed : borrowed_device l.source ≡ borrowed_device l.fn.source;
    }

abbrev pub decreases-entries : goal.decreases-entries
decreases-entries g l = (bound-value g.row.R g.R.ByteStream g.R.ByteStream-dict).it l.source
