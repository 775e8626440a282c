-- What there is between two runs of a collector. (own)
use Rattle.std.specs.Prelude.{◌⊎◌, Bool, false, List, [], ◌∷◌, map, None}
use Rattle.std.specs.List.{Contains}
use Rattle.std.specs.FinMap.{empty}
use Rattle.jc_base.specs.declared.id.Id128.{Id128}
use Rattle.jc_base.specs.declared.id.Key.{Key}
use Rattle.jc_base.specs.Journal.{Journal}
use Rattle.jc_base.specs.LogEntry.{LogEntry}
use Rattle.jc_keeper.specs.Agree.{IsStored}
use Rattle.jc_ledger.specs.Known.{Known}
use Rattle.jc_ledger.specs.Lagging.{MayCatchUp}
use Rattle.jc_ledger.specs.Owners.{Owner}

-- What became of a database that was the present one: it was finished and is kept, it went for its age, or it was set aside,
-- since it couldn't be opened.
pub data Fate : Type 0 where
  Kept : Fate
  Expired : Fate
  Aside : Fate

-- A database: what became of it, and what it has, or had as long as it was there.
pub record Database : Type 0 where
  pub fate : Fate
  pub journal : Journal

abbrev pub database : Fate → Journal → Database
database fate journal = record { fate = fate; journal = journal }

pub record Between : Type 0 where
  -- what the files of notes tell of entries, and the machines that sequences belong to
  pub known : Known
  pub owner : Owner
  -- the databases that were present once, the last one first
  pub earlier : List Database
  -- what is still noted of them
  pub past : Journal
  -- what the present database has
  pub now : Journal
  -- the entries that came so far
  pub came : List LogEntry
  -- the keys of which a note went, or wasn't made of a database that was set aside
  pub forgotten : Key → Bool
  -- the sequences whose owner's note went, or was changed
  pub released : Id128 → Bool

-- at first there is nothing
abbrev pub nothing : Between
nothing = record {
  known = λ _. None;
  owner = λ _. None;
  earlier = [];
  past = empty;
  now = empty;
  came = [];
  forgotten = λ _. false;
  released = λ _. false;
}

-- what databases have, or had as long as they were there
abbrev pub journals_of : List Database → List Journal
journals_of ds = map (λ d. d.journal) ds

-- ... of all that ever were, the present one first
abbrev pub journals : Between → List Journal
journals b = b.now ∷ journals_of b.earlier

-- One of the journals has the entry.
abbrev pub IsInOne : List Journal → LogEntry → Type 0
IsInOne [] e = ⊥
IsInOne (m ∷ ms) e = IsStored m e ⊎ IsInOne ms e

-- What a run supposes of its beginning: what is noted is what is still noted of earlier databases, and of some of what the
-- present one has.
abbrev pub MayBegin : Between → Type 0
MayBegin b = MayCatchUp b.known b.past b.now (Contains b.came)
