use Rattle.std.proofs.Common.{◌≢◌, refl}
use Rattle.sqlite_disk.specs.declared.Disk as disk
use Rattle.sqlite_store.specs.declared.store.FileStore.{FileStore}
use Rattle.sqlite.specs.Recovery.{Image}
use Rattle.sqlite.specs.Files.{IsNothing}
use Rattle.sqlite.specs.declared.file.Leftover.{Leftover}
use Rattle.sqlite.specs.declared.file.Leftover.TheVariants as leftover
use Rattle.jc_database.specs.Left.{HaveNoSums}
use Rattle.jc_database.specs.OverDisk.{IsUsual}
use Rattle.jc_database.proofs.Blank.{never_blank}
use Rattle.jc_database.proofs.law.new_files_are_usual.Goals as goal

module _ (image : Image) (nothing : IsNothing image) where
  have_no_sums : HaveNoSums image
  have_no_sums size db held = absurd (never_blank size image held.pages held.found held.ours.file.sound nothing)

  usual : {D : Type 0} {g : disk.Ghosts D} (left : Leftover D g) → ((store : FileStore D g) → left ≢ leftover.Store store) → IsUsual image left
  usual (leftover.Files files) other = tt
  usual (leftover.Unopened files) other = λ plain. have_no_sums
  usual (leftover.Store store) other = absurd (other store refl)

pub returns : goal.returns
returns g c image nothing left other = usual image nothing left other
