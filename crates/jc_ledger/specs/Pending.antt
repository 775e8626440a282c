-- Entries that were taken up, and wait to be stored. (own)
use Rattle.std.specs.Prelude.{◌≡◌, List, [], ◌∷◌}
use Rattle.std.specs.BTreeMap.{BTreeMap, get as noted_under}
use Rattle.jc_base.specs.declared.id.Key.{Key}
use Rattle.jc_base.specs.LogEntry.{LogEntry}
use Rattle.jc_base.specs.Journal.{Journal, key_cmp}
use Rattle.jc_keeper.specs.Agree.{HasBoth}
use Rattle.jc_ledger.specs.declared.digest.EntryDigest.{EntryDigest}
use Rattle.jc_ledger.specs.Known.{Known, with_notes}
use Rattle.jc_ledger.specs.Lagging.{IsNoted, MayCatchUp}
use Rattle.jc_ledger.specs.Union.{with_all}

-- The present database is to get these entries.
pub record IsPending (lasting known : Known) (past stored : Journal) (pending : List LogEntry) (came : LogEntry → Type 0) : Type 0 where
  -- it has none that differs from one of them, nor do they differ from each other
  pub has : HasBoth stored pending (with_all stored pending)
  -- what is known is what the databases have once it has got them
  pub noted : IsNoted lasting known past (with_all stored pending) came
  -- until then, what the ledger has may be caught up
  pub lasts : MayCatchUp lasting past stored came

-- The notes of new entries wait with those that waited. Where none is new, what waits stays.
abbrev pub WaitToo : (fresh : List LogEntry) → (notes before after : BTreeMap Key EntryDigest) → Type 0
WaitToo [] notes before after = after ≡ before
WaitToo (e ∷ fresh) notes before after = (k : Key) → noted_under key_cmp after k ≡ with_notes notes (noted_under key_cmp before) k
