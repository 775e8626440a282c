-- What a connection has that was opened from files which have a journal.
use Rattle.std.proofs.Common.{◌≡◌, sym, ap, subst, ◌∙◌}
use Rattle.sqlite_trees.specs.Objects.{catalog_tree}
use Rattle.sqlite_catalog.specs.Listing.{Lists}
use Rattle.sqlite_catalog.proofs.ReadLemmas.{lists_once}
use Rattle.sqlite.specs.Store.{Ghosts}
use Rattle.sqlite.specs.Recovery.{Image}
use Rattle.sqlite.specs.Tree.{Trees}
use Rattle.sqlite.specs.Effect.{Database, IsDatabase}
use Rattle.sqlite.specs.Held.{Held, state}
use Rattle.jc_base.specs.Journal.{Journal}
use Rattle.jc_store.specs.Meaning.{Meaning, HasSettled}
use Rattle.jc_database.specs.Files.{HoldsJournal, IsFound, Keeps}

-- Trees list their schema, so they are those of one database.
pub one_database : (d e : Database) → IsDatabase d → IsDatabase e → d.trees ≡ e.trees → d ≡ e
one_database d e first second same =
    let listed : Lists (d.trees catalog_tree) e.schema = subst (λ (trees : Trees). Lists (trees catalog_tree) e.schema) (sym same) second.lists in
    let schema : d.schema ≡ e.schema = lists_once (d.trees catalog_tree) d.schema e.schema first.lists listed in
    λ i. record { schema = schema i; trees = same i }

module _ {S : Type 0} {g : Ghosts S} (m : Meaning) (image : Image) (c : Held S) (found : IsFound g image c)
    (journal : Journal) (holds : HoldsJournal m image journal)
  where
    pub database_found : (state g c).now ≡ holds.database
    database_found = one_database (state g c).now holds.database found.live holds.sound (found.whole holds.database.trees holds.holds)

    settles : HasSettled m g c
    settles = record { journal = subst m.is_journal (sym database_found) holds.is_journal; settled = found.settled }

    pub keeps_found : Keeps m g c journal
    keeps_found = record { made = λ sound. settles; is = ap m.journal_in database_found ∙ holds.reads }
