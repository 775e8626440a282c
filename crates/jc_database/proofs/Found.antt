-- What an open finds.
use Rattle.std.proofs.Common.{◌≡◌, inl, inr, [], true, List, refl, sym, ap, subst, ◌∙◌}
use Rattle.std.proofs.Math.Logic.{∥∥₁_elim}
use Rattle.std.specs.List.{AllByRecursion}
use Rattle.sqlite_disk.specs.declared.Disk as disk
use Rattle.sqlite_store.specs.declared.store.FileStore.{FileStore}
use Rattle.sqlite_store.specs.Listing.{IsOurs}
use Rattle.sqlite_trees.specs.declared.store.Shape.TheVariants.{Table}
use Rattle.sqlite_trees.specs.View.{IsShaped}
use Rattle.sqlite_trees.specs.Objects.{catalog_tree}
use Rattle.sqlite_trees.specs.Props.{Trees-set, rows_set}
use Rattle.sqlite_trees.specs.Sound.{is_sound_list}
use Rattle.sqlite_catalog.specs.Listing.{Lists}
use Rattle.sqlite_catalog.proofs.ReadLemmas.{lists_once}
use Rattle.sqlite.specs.Recovery.{Image}
use Rattle.sqlite.specs.Order.{Row}
use Rattle.sqlite.specs.Schema.{Schema}
use Rattle.sqlite.specs.Tree.{Trees}
use Rattle.sqlite.specs.Effect.{Database, IsDatabase}
use Rattle.sqlite.specs.State.{HasCleanDisk}
use Rattle.sqlite.specs.Start.{FindsIn}
use Rattle.sqlite.specs.Held.{Held}
use Rattle.sqlite.specs.Files.{HoldsDatabase, IsNothing, IsEmpty, IsOpened, AreFoundIn, file_state, over_files}
use Rattle.jc_store.specs.Schema.{no_schema}
use Rattle.jc_database.specs.Files.{HoldsNone, IsFound}
use Rattle.jc_database.proofs.Blank.{never_blank}
use Rattle.jc_database.proofs.Ordered.{found_in_order}

lists_none : Lists [] no_schema
unfolding is_sound_list
lists_none = record {
  listed = record { tables = _; indexes = _; views = _; owned = _; named = _; loads = refl };
  guarded = _;
}

-- with no row of the schema there is no table
blank : (d : Database) → IsDatabase d → d.trees catalog_tree ≡ [] → d.schema ≡ no_schema
blank d is none = lists_once [] d.schema no_schema (subst (λ (rows : List Row). Lists rows d.schema) none is.lists) lists_none

none_listed : (image : Image) (trees : Trees) → IsNothing image → AreFoundIn image trees → trees catalog_tree ≡ []
none_listed image trees nothing (inl (size, pages, wanted, adopts, ours, is)) = ∥∥₁_elim ours (rows_set _ _) (λ (file : IsOurs size true wanted pages).
    absurd (never_blank size image pages adopts file.file.sound nothing))
none_listed image trees nothing (inr none) = none.1.1

no_rows_found : (image : Image) (trees : Trees) → IsNothing image → AreFoundIn image trees → IsEmpty trees
no_rows_found image trees nothing (inl (size, pages, wanted, adopts, ours, is)) = (
  λ tree low. ∥∥₁_elim ours (rows_set _ _) (λ (file : IsOurs size true wanted pages). absurd (never_blank size image pages adopts file.file.sound nothing)),
  none_listed image trees nothing (inl (size, pages, wanted, adopts, ours, is)),
)
no_rows_found image trees nothing (inr none) = none.1

module _ {D : Type 0} {g : disk.Ghosts D} (image : Image) (c : Held (FileStore D g)) (opened : IsOpened c) (found : FindsIn image (file_state c)) where
  held : (db : Trees) → ∥ HoldsDatabase image db ∥₁ → (file_state c).now.trees ≡ db
  held db holds = ap (λ (d : Database). d.trees) opened.0.clean ∙ ∥∥₁_elim holds (Trees-set _ _) (found.holds db)

  unlisted : HoldsNone image → (file_state c).now.trees catalog_tree ≡ []
  unlisted (inl nothing) =
      ap (λ (d : Database). d.trees catalog_tree) opened.0.clean ∙ none_listed image (file_state c).committed.trees nothing found.reads
  unlisted (inr empty) = ∥∥₁_elim empty (rows_set _ _) (λ it. ap (λ (trees : Trees). trees catalog_tree) (held it.0 ∣ it.1 ∣₁) ∙ it.2.1)

  emptied : HoldsNone image → IsEmpty (file_state c).now.trees
  emptied (inl nothing) =
      subst (λ (d : Database). IsEmpty d.trees) (sym opened.0.clean) (no_rows_found image (file_state c).committed.trees nothing found.reads)
  emptied (inr empty) = (
    λ tree low. ∥∥₁_elim empty (rows_set _ _) (λ it. ap (λ (trees : Trees). trees tree) (held it.0 ∣ it.1 ∣₁) ∙ it.2.0 tree low),
    unlisted (inr empty),
  )

  pub is_found : HasCleanDisk (file_state c) → IsFound over_files image c
  is_found clean = record {
    sound = record { clean = clean; is_open = opened.0.is_open };
    live = (opened.1 opened.0.is_open).0;
    ordered = found_in_order (file_state c).now (opened.1 opened.0.is_open).0 image
        (subst (AreFoundIn image) (sym (ap (λ (d : Database). d.trees) opened.0.clean)) found.reads)
        (λ none. subst (λ (s : Schema). AllByRecursion (λ t. IsShaped Table ((file_state c).now.trees t.tree)) s.tables)
        (sym (blank (file_state c).now (opened.1 opened.0.is_open).0 none)) tt);
    settled = sym opened.0.clean;
    whole = held;
    none = λ none. blank (file_state c).now (opened.1 opened.0.is_open).0 (unlisted none);
    no_rows = emptied;
  }
