-- The rows of tables in files that were opened stand behind rowids that rise.
use Rattle.std.proofs.Common.{◌≡◌, inl, inr, true, ℕ, List, [], sym, ap, subst, ◌∙◌}
use Rattle.std.proofs.Math.Logic.{∥∥₁_elim}
use Rattle.sqlite_store.specs.declared.catalog.Wanted.{Wanted}
use Rattle.sqlite_store.specs.Listing.{IsOurs, all_reals, all_shapes, file_trees, listed_from}
use Rattle.sqlite_pool.specs.File.{version_in, in_use}
use Rattle.sqlite_store.specs.Listed.{catalog_rows, is_listed}
use Rattle.sqlite_store.proofs.ListingLemmas.{all_ordered}
use Rattle.sqlite_trees.specs.declared.store.Shape.{Shape}
use Rattle.sqlite_trees.specs.declared.store.Shape.TheVariants.{Table}
use Rattle.sqlite_trees.specs.Objects.{IsListed, catalog_tree}
use Rattle.sqlite_trees.specs.Props.{AllByRecursion-prop, IsShaped-prop}
use Rattle.sqlite_trees.specs.View.{IsOrdered, IsShaped}
use Rattle.sqlite_pages.specs.PageMap.{PageMap}
use Rattle.sqlite_rules.proofs.ListLemmas.{all_from}
use Rattle.sqlite_catalog.proofs.LayoutLemmas.{table_shape}
use Rattle.sqlite.specs.Recovery.{Image}
use Rattle.sqlite.specs.Order.{Row}
use Rattle.sqlite.specs.Tree.{Trees}
use Rattle.sqlite.specs.Effect.{Database, IsDatabase}
use Rattle.sqlite.specs.Files.{AreFoundIn}
use Rattle.jc_database.specs.Files.{AreInOrder}

module _ (d : Database) (sound : IsDatabase d) (size : ℕ) (wanted : List Wanted) (pages : PageMap) (is : d.trees ≡ file_trees size wanted pages) (ours : IsOurs size true wanted pages) where
  ordered : IsOrdered (all_shapes wanted) d.trees
  ordered = subst (IsOrdered (all_shapes wanted)) (sym is) (all_ordered ours.file.db (version_in pages))

  listed_rows : d.trees catalog_tree ≡ listed_from 0 wanted
  listed_rows = ap (λ (trees : Trees). trees catalog_tree) is ∙ catalog_rows size wanted (in_use size pages)

  listed : IsListed (d.trees catalog_tree) (all_shapes wanted) (all_reals wanted)
  listed = subst (λ (rows : List Row). IsListed rows (all_shapes wanted) (all_reals wanted)) (sym listed_rows) (is_listed wanted)

  rising : IsShaped Table (d.trees catalog_tree)
  rising = subst (λ (s : Shape). IsShaped s (d.trees catalog_tree)) listed.itself.0 (ordered catalog_tree)

  in_order : AreInOrder d
  in_order = all_from _ d.schema.tables (λ t h.
      subst (λ (s : Shape). IsShaped s (d.trees t.tree)) (table_shape listed rising.0 sound.lists.listed t h).0 (ordered t.tree))

pub found_in_order : (d : Database) → IsDatabase d → (image : Image) → AreFoundIn image d.trees → (d.trees catalog_tree ≡ [] → AreInOrder d) → AreInOrder d
found_in_order d sound image (inl (size, pages, wanted, adopts, ours, is)) none =
    ∥∥₁_elim ours (AllByRecursion-prop _ (λ t. IsShaped-prop Table (d.trees t.tree)) d.schema.tables) (λ (file : IsOurs size true wanted pages). in_order d sound size wanted pages is file)
found_in_order d sound image (inr nothing) none = none nothing.1.1
