-- The closed files have what the keeper had. What is handed back of them is that, as a crash may leave it.
use Rattle.jc_store.specs.Meaning.{journal_of}
use Rattle.jc_collector.proofs.IntoUnion.{has_left}
use Rattle.jc_collector.proofs.closing.close_after.Goals as goal

pub returns-in-Err-done-clause-left : goal.returns-in-Err-done-clause-left
returns-in-Err-done-clause-left g c =
    let m = g.L.Layout.meaning in
    let conn = c.args.keeper.conn in
    let files = c.left_files.ensures in
    λ first. record {
      was_clean = λ clean. (c.in-Ok.ensures.sound (files.clean clean.0)).clean;
      leaves = λ lawful made journals clean image may.
          let sound = c.in-Ok.ensures.sound (files.clean clean.0) in
          ∣ (journal_of m g.F.Store conn, has_left m g.F.Store conn sound made (g.met.F.Store.stays conn.store sound.is_open), (c.in-Ok.ensures.keeps made (files.clean clean.0)).left image (files.outcomes image may)) ∣₁;
    }
