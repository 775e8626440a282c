-- What a connection leaves of its files, by what those had that it was opened from.
use Rattle.std.proofs.Common.{◌≡◌, ◌⊎◌, IsTrue, inl, inr, sym, ap, subst, ◌∙◌}
use Rattle.std.proofs.Math.Logic.{∥∥₁_map}
use Rattle.std.specs.FinMap.{empty}
use Rattle.sqlite.specs.Store.{Ghosts}
use Rattle.sqlite.specs.Recovery.{Image}
use Rattle.sqlite.specs.View.{IsClean}
use Rattle.sqlite.specs.Tree.{Trees}
use Rattle.sqlite.specs.State.{HasCleanDisk}
use Rattle.sqlite.specs.Effect.{Database}
use Rattle.sqlite.specs.Held.{Held, state}
use Rattle.sqlite.specs.Files.{HoldsDatabase, IsEmpty}
use Rattle.jc_store.specs.Crash.{LeavesNoMore, LeavesOr}
use Rattle.jc_store.specs.Meaning.{Meaning}
use Rattle.jc_store.specs.Statements.{IsBlank}
use Rattle.jc_database.specs.Files.{AreLawful, HoldsJournal, IsFound}
use Rattle.jc_database.specs.FilesLaws.{one_database}
use Rattle.jc_database.specs.Left.{HaveLeft, HaveNoTables, IsFrom, StaysAs, StaysOrIsMade}

module _ {S : Type 0} {g : Ghosts S} (settled : (s : S) (db : Trees) → IsTrue (g.view s).is_open → g.recovers s db → db ≡ (g.view s).committed)
    (clean_if_left : (s : S) (db : Trees) → g.recovers s db → IsClean (g.view s)) (before : Image) (first : Held S) (from : IsFrom g before first)
  where
    was_found : (found : Trees) → (state g first).may_leave found → IsFound g before first
    was_found found may = from (clean_if_left first.store found may)

    is_now : (found : Trees) → (state g first).may_leave found → found ≡ (state g first).now.trees
    is_now found may =
        let it = was_found found may in
        settled first.store found it.sound.is_open may ∙ ap (λ (d : Database). d.trees) it.settled

    stays_as : (image : Image) → ∥ ((found : Trees) × (state g first).may_leave found × HoldsDatabase image found) ∥₁ → StaysAs before image
    stays_as image has = record {
      kept = λ db held. ∥∥₁_map has (λ it. subst (HoldsDatabase image) (is_now it.0 it.1 ∙ (was_found it.0 it.1).whole db held) it.2);
      none = λ none. inr (∥∥₁_map has (λ it.
          let r : (db : Trees) × HoldsDatabase image db × IsEmpty db =
          (it.0, it.2, subst IsEmpty (sym (is_now it.0 it.1)) ((was_found it.0 it.1).no_rows none)) in r));
    }

    module _ (conn : Held S) (image : Image) (have : HaveLeft g conn image) where
      pub no_more_stays : LeavesNoMore (state g first) (state g conn) → StaysAs before image
      no_more_stays no_more = stays_as image (∥∥₁_map have.has (λ it.
          let r : (found : Trees) × (state g first).may_leave found × HoldsDatabase image found = (it.0, no_more have.clean it.0 it.1, it.2) in r))

      module _ (m : Meaning) (lawful : AreLawful m) (blank : IsBlank (state g first).now)
          (early : HasCleanDisk (state g conn) → HasCleanDisk (state g first))
        where
          no_tables : HaveNoTables before
          no_tables db sound held =
              let it = from (early have.clean) in
              let same = one_database (state g first).now db it.live sound (it.whole db.trees held) in
              ap (λ (d : Database). d.schema) (sym same) ∙ blank

          pub stays_or_made : LeavesOr m g first conn (λ found. found ≡ empty) → StaysOrIsMade m before image
          stays_or_made leaves = ∥∥₁_map have.has (λ it.
              let r : StaysAs before image ⊎ (HaveNoTables before × HoldsJournal m image empty) = elim (leaves have.clean it.0 it.1) [
                | inl was ↦ inl (stays_as image ∣ (it.0, was, it.2) ∣₁)
                | inr made ↦ inr (
                  no_tables,
                  record {
                    database = made.1.database;
                    sound = lawful made.1.database made.1.is_journal;
                    holds = ∣ subst (HoldsDatabase image) (sym made.1.trees_are) it.2 ∣₁;
                    is_journal = made.1.is_journal;
                    reads = made.1.reads ∙ made.2;
                  },
                )
              ] in r)
