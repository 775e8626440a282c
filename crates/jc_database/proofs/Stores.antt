-- What the files of a store have after a crash.
use Rattle.std.proofs.Common.{IsTrue, refl, subst}
use Rattle.std.proofs.Math.Logic.{∥∥₁_elim, ∥∥₁_map}
use Rattle.sqlite_disk.specs.declared.Disk as disk
use Rattle.sqlite_pool.proofs.StateLemmas.{size_is_allowed}
use Rattle.sqlite_pool.proofs.ResealLemmas.{adopts_of}
use Rattle.sqlite_store.specs.FileStore.{reading, schema_in}
use Rattle.sqlite_store.specs.Listing.{IsOurs}
use Rattle.sqlite_store.specs.declared.store.FileStore.{FileStore}
use Rattle.sqlite_catalog.specs.Listing.{IsSound}
use Rattle.sqlite.specs.FileStore.{state, view, recovers}
use Rattle.sqlite.specs.Recovery.{Image}
use Rattle.sqlite.specs.Schema.{Schema}
use Rattle.sqlite.specs.Tree.{Trees}
use Rattle.sqlite.specs.Files.{HoldsDatabase, IsNothing}
use Rattle.jc_database.proofs.Blank.{never_blank}

-- They have trees that the store allows, which are a database if they obey a schema.
pub found_in : {D : Type 0} {g : disk.Ghosts D} (it : FileStore D g) → IsTrue (view it).is_numbered → (image : Image) → (state it).may_leave image
    → ∥ ((found : Trees) × recovers it found × ((schema : Schema) → IsSound schema found → HoldsDatabase image found)) ∥₁
found_in it numbered image may = ∥∥₁_elim it.safe squash₁ (λ all.
    let found = all image may in
    let read = reading it found.0 in
    ∥∥₁_elim (size_is_allowed it.pool) squash₁ (λ size. ∥∥₁_map found.2 (λ ours.
    let r : (found : Trees) × recovers it found × ((schema : Schema) → IsSound schema found → HoldsDatabase image found) = (
      read,
      (image, found.0, may, ∣ found.1 ∣₁, refl),
      λ schema sound. (
        (state it).page_size,
        size,
        record {
          pages = found.0;
          wanted = schema_in it found.0;
          schema = schema;
          found = adopts_of _ image found.0 found.1;
          ours = subst (λ b. IsOurs (state it).page_size b (schema_in it found.0) found.0) numbered ours;
          reads = refl;
          sound = sound;
        },
      ),
    ) in r)))

-- Files in which no database has been made yet have none.
pub no_database : (image : Image) (db : Trees) → HoldsDatabase image db → ¬ IsNothing image
no_database image db held nothing = never_blank held.0 image held.2.pages held.2.found held.2.ours.file.sound nothing
