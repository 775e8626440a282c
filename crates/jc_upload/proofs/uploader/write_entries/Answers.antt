use Rattle.std.proofs.Common.{subst, arith}
use Rattle.std.proofs.lemmas.Grind.{common_steps}
use Rattle.std.proofs.lemmas.List.Elements.{All-more}
use Rattle.jc_base.specs.LogEntry.{IsEntry}
use Rattle.jc_upload.proofs.uploader.write_entries.Goals as goal

pub loop-entry-preserved : goal.loop-entry-preserved
loop-entry-preserved g c = record {
  text = grind (arith, common_steps);
  lawful =
      All-more IsEntry c.args.entries.now c.loop-entry.entry-index c.entry-item.result c.loop-entry-test.true c.loop-entry.invariant.lawful
      (subst IsEntry c.entry-item.is c.key-key.ensures.lawful);
}
