-- What a run begins with whose files stayed as they were.
use Rattle.std.proofs.Common.{◌⊎◌, inl, inr, sym, subst}
use Rattle.std.proofs.Math.Logic.{∥∥₁_map}
use Rattle.std.specs.FinMap.{empty}
use Rattle.sqlite.specs.Recovery.{Image}
use Rattle.jc_base.specs.Journal.{Journal}
use Rattle.jc_store.specs.Meaning.{Meaning}
use Rattle.jc_database.specs.Files.{BeginsWith, HoldsJournal}
use Rattle.jc_database.specs.Left.{HaveNoTables, HaveTables, StaysAs, StaysOrIsMade}

module _ (m : Meaning) (before left : Image) where
  module _ (stays : StaysAs before left) (found : Journal) where
    pub journal_stays : HoldsJournal m before found → HoldsJournal m left found
    journal_stays had = record {
      database = had.database;
      sound = had.sound;
      holds = stays.kept had.database.trees had.holds;
      is_journal = had.is_journal;
      reads = had.reads;
    }

    pub beginning_stays : BeginsWith m before found → BeginsWith m left found
    beginning_stays (inl had) = inl (journal_stays had)
    beginning_stays (inr none) = inr (stays.none none.0, none.1)

  -- where tables were being made
  module _ (tables : HaveTables m) (found : Journal) where
    begins_made : StaysAs before left ⊎ (HaveNoTables before × HoldsJournal m left empty)
        → BeginsWith m before found → BeginsWith m left found
    begins_made (inl stays) begins = beginning_stays stays found begins
    begins_made (inr made) (inl had) = absurd (tables had.database had.is_journal (made.0 had.database had.sound had.holds))
    begins_made (inr made) (inr none) = inl (subst (HoldsJournal m left) (sym none.1) made.1)

    pub beginning_made : StaysOrIsMade m before left → BeginsWith m before found → ∥ BeginsWith m left found ∥₁
    beginning_made either begins = ∥∥₁_map either (λ it. begins_made it begins)
