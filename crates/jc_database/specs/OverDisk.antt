-- What is seen of the two files of a database, its own and the log beside it, on a disk. (own)
use Rattle.std.specs.Prelude.{◌≡◌, false, IsTrue, ⊤}
use Rattle.sqlite_disk.specs.declared.Disk as disk
use Rattle.sqlite_disk.specs.declared.Files.{Files}
use Rattle.sqlite_pool.specs.Stored.{is_summed}
use Rattle.sqlite_store.specs.Unopened.{state_of}
use Rattle.sqlite_store.specs.declared.store.FileStore.{FileStore}
use Rattle.sqlite.specs.FileStore.{state, view}
use Rattle.sqlite.specs.Recovery.{Image}
use Rattle.sqlite.specs.WalFiles.{outcomes}
use Rattle.sqlite.specs.WalReads.{AreClean}
use Rattle.sqlite.specs.Files.{IsCleanLeft, image_of}
use Rattle.sqlite.specs.declared.file.Leftover.{Leftover}
use Rattle.sqlite.specs.declared.file.Leftover.TheVariants as leftover
use Rattle.jc_database.specs.Files.{InFiles}
use Rattle.jc_database.specs.Left.{HaveNoSums}

module _ {D : Type 0} {g : disk.Ghosts D} where
  -- A crash may leave this of what a call that failed handed back.
  abbrev pub MayBeLeft : Leftover D g → Image → Type 0
  MayBeLeft (leftover.Files files) image = outcomes g files.log files.db image
  MayBeLeft (leftover.Unopened files) image = (state_of files).may_leave image
  MayBeLeft (leftover.Store store) image = (state store).may_leave image

  -- Pages were taken for ones without sums only if they have none, and a store has tree t in row t + 1 of sqlite_schema.
  -- So it is in the toolchain's code, but none of its clauses says it of an open or a close that failed.
  abbrev pub IsUsual : (before : Image) → Leftover D g → Type 0
  IsUsual before (leftover.Files files) = ⊤
  IsUsual before (leftover.Unopened files) = is_summed (state_of files).page_size ≡ false → HaveNoSums before
  IsUsual before (leftover.Store store) = IsTrue (view store).is_numbered

-- What is seen of the two files of a store on a disk: their pages are those of section 4.5 of SQLite's "Database File
-- Format", and a crash leaves each file as its disk may leave it.
abbrev pub over_disk : {D : Type 0} → (g : disk.Ghosts D) → InFiles (FileStore D g) (Files D) (Leftover D g)
over_disk g = record {
  clean = λ files. AreClean g files.log files.db;
  image = image_of g;
  outcomes = λ files image. outcomes g files.log files.db image;
  may_leave = λ store. (state store).may_leave;
  is_clean_left = IsCleanLeft;
  is_usual = IsUsual;
  may_be_left = MayBeLeft;
}
