-- With what a crash leaves a run begins as it might have before.
use Rattle.std.proofs.Common.{◌⊎◌, inl, inr, subst, sym}
use Rattle.std.proofs.Math.Logic.{∥∥₁_map}
use Rattle.std.specs.FinMap.{empty as none}
use Rattle.sqlite.specs.Store.{Ghosts}
use Rattle.sqlite.specs.Recovery.{Image}
use Rattle.sqlite.specs.Held.{Held, state}
use Rattle.jc_base.specs.Journal.{Journal}
use Rattle.jc_command_args.specs.declared.request.Tables.{Tables}
use Rattle.jc_store.specs.Statements.{IsBlank}
use Rattle.jc_database.specs.Files.{HoldsJournal, InFiles}
use Rattle.jc_database.specs.Left.{HaveNoTables, IsFrom, LeavesAsBefore, StaysAs, StaysOrIsMade}
use Rattle.jc_database.specs.LeftLaws.{journal_stays}
use Rattle.jc_collector.specs.Kinds.{BeginsIn, meaning_of}
use Rattle.jc_collector.specs.Unopened.{BeginsAgain, LeavesBegun, LeavesUnmade}
use Rattle.jc_collector.proofs.Found.{some_tables}

module _ (made : Tables) (before left : Image) where
  begins_again : StaysAs before left → (kind : Tables) (found : Journal) → BeginsIn made kind before found → BeginsIn made kind left found
  begins_again stays kind found (inl has) = inl (journal_stays (meaning_of kind) before left stays found has)
  begins_again stays kind found (inr nothing) = inr (stays.none nothing.0, nothing.1, nothing.2)

  begins_made : StaysAs before left ⊎ (HaveNoTables before × HoldsJournal (meaning_of made) left none)
      → (kind : Tables) (found : Journal) → BeginsIn made kind before found → BeginsIn made kind left found
  begins_made (inl stays) kind found begins = begins_again stays kind found begins
  begins_made (inr anew) kind found (inl has) =
      absurd (some_tables kind has.database has.is_journal (anew.0 has.database has.sound has.holds))
  begins_made (inr anew) kind found (inr nothing) =
      let mine : HoldsJournal (meaning_of kind) left none = subst (λ (k : Tables). HoldsJournal (meaning_of k) left none) (sym nothing.1) anew.1 in
      inl (subst (HoldsJournal (meaning_of kind) left) (sym nothing.2) mine)

  stays_begun : StaysAs before left → BeginsAgain made before left
  stays_begun stays kind found begins = ∣ begins_again stays kind found begins ∣₁

  made_begun : StaysOrIsMade (meaning_of made) before left → BeginsAgain made before left
  made_begun either kind found begins = ∥∥₁_map either (λ it. begins_made it kind found begins)

module _ {S C L : Type 0} (o : InFiles S C L) (made : Tables) (before : Image) (left : L) where
  pub as_before : LeavesAsBefore o before left → LeavesBegun o made before left
  as_before leaves clean usual image may = stays_begun made before image (leaves clean usual image may)

  pub unmade : (g : Ghosts S) (conn : Held S) → IsFrom g before conn → IsBlank (state g conn).now → LeavesUnmade g o made conn left
      → LeavesBegun o made before left
  unmade g conn from blank leaves clean usual image may = made_begun made before image (leaves before from blank clean usual image may)
