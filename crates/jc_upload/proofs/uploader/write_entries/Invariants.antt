use Rattle.std.proofs.Common.{take}
use Rattle.std.specs.List.{All}
use Rattle.std.specs.Prelude.{flat_map}
use Rattle.std.specs.Io.KnownBytes.{Appends}
use Rattle.jc_base.specs.LogEntry.{IsEntry}
use Rattle.jc_export.specs.Canonical.{canon}
use Rattle.jc_upload.proofs.uploader.write_entries.Given as goal

abbrev pub invariant-loop-entry : goal.invariant-loop-entry
invariant-loop-entry g l =
    let written = g.W.ByteSink.written in
    record {
      text : Appends (written l.fn.sink) (written l.sink) (flat_map canon (take l.entry-index l.entries));
      lawful : All IsEntry (take l.entry-index l.entries);
    }
