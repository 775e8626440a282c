-- Closed or not, a crash leaves what it might have left before.
use Rattle.std.proofs.Common.{arith}
use Rattle.std.proofs.Math.Logic.{∥∥₁_map}
use Rattle.sqlite.specs.Files.{HoldsDatabase}
use Rattle.sqlite.specs.Held.{state}
use Rattle.sqlite.specs.State.{HasCleanDisk}
use Rattle.sqlite.specs.Tree.{Trees}
use Rattle.jc_database.proofs.refused.hand_back.Goals as goal

pub returns-in-Ok : goal.returns-in-Ok
returns-in-Ok g c = λ before clean usual image may.
    let conn = c.args.conn in
    let it = c.in-Ok.ensures.copied (c.left_files.ensures.clean clean) in
    record {
      clean = it.was_clean;
      has = ∥∥₁_map (it.left image (c.left_files.ensures.outcomes image may)).both (λ (held : HoldsDatabase image (state g.F.Store conn).committed.trees).
          let r : (found : Trees) × (state g.F.Store conn).may_leave found × HoldsDatabase image found =
          ((state g.F.Store conn).committed.trees, g.met.F.Store.stays conn.store it.was_open, held) in r);
    }

pub returns-in-Err : goal.returns-in-Err
returns-in-Err g c = λ before clean usual image may.
    let conn = c.args.conn in
    let last = c.in-Err.failed.store in
    let back = c.in-Err.ensures.failed in
    let sure = c.left_store.ensures.clean clean in
    let early : HasCleanDisk (state g.F.Store conn) = omega (arith, back.quiet.clean, sure) in
    record {
      clean = early;
      has = ∥∥₁_map (g.met.F.StoreInFiles.opens_again last (c.left_store.ensures.usual before usual) (back.sound sure) image (c.left_store.ensures.outcomes image may)) (λ it.
          let r : (found : Trees) × (state g.F.Store conn).may_leave found × HoldsDatabase image found =
          (it.0, back.quiet.outcomes it.0 it.1, it.2) in r);
    }
