-- What is always so of the files of a store on a disk.
use Rattle.sqlite_disk.specs.declared.Disk as disk
use Rattle.sqlite_wal.proofs.LogLemmas.{SeenMayStay}
use Rattle.sqlite_pool.proofs.StateLemmas.{clean_if_left, seen_may_be_left}
use Rattle.sqlite_store.specs.declared.store.FileStore.{FileStore}
use Rattle.sqlite_trees.proofs.Doubt.{clean_of, no_doubt}
use Rattle.sqlite.specs.FileStore.{recovers, view}
use Rattle.sqlite.specs.Files.{IsCleanLeft, over_files}
use Rattle.sqlite.specs.Recovery.{Image}
use Rattle.sqlite.specs.Tree.{Trees}
use Rattle.sqlite.specs.View.{IsClean}
use Rattle.sqlite.specs.declared.file.Leftover.{Leftover}
use Rattle.sqlite.specs.declared.file.Leftover.TheVariants as leftover
use Rattle.jc_database.specs.Left.{LeavesSome}
use Rattle.jc_database.specs.OverDisk.{MayBeLeft, over_disk}

module _ {D : Type 0} {g : disk.Ghosts D} where
  -- nothing is left of a disk that isn't clean
  pub clean_if_left_at : (it : FileStore D g) (found : Trees) → recovers it found → IsClean (view it)
  clean_if_left_at it found may = no_doubt _ (clean_if_left it.pool may.0 may.2)

  module _ (stays : SeenMayStay g) where
    some_handed_back : (left : Leftover D g) → IsCleanLeft left → (image : Image) × MayBeLeft left image
    some_handed_back (leftover.Files files) clean = (_, (stays files.log, stays files.db))
    some_handed_back (leftover.Unopened files) clean = (_, seen_may_be_left files.pool stays clean)
    some_handed_back (leftover.Store it) clean = (_, seen_may_be_left it.pool stays clean)

    -- what they read may be what is left
    pub leaves_some_at : LeavesSome over_files (over_disk g)
    leaves_some_at = record {
      closed = λ files. (stays files.log, stays files.db);
      open_still = λ it clean. (_, seen_may_be_left it.pool stays (clean_of _ clean));
      handed_back = some_handed_back;
    }
