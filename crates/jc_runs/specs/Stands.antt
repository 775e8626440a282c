-- What holds between runs, whatever came before. (own)
use Rattle.std.specs.Prelude.{◌≡◌, ◌⊎◌, ⊤, true, false, Bool, List, [], ◌∷◌, Some, None}
use Rattle.std.specs.List.{AllByRecursion}
use Rattle.std.specs.FinMap.{get}
use Rattle.jc_base.specs.declared.id.Id128.{Id128}
use Rattle.jc_base.specs.declared.id.Key.{Key}
use Rattle.jc_base.specs.Journal.{Journal}
use Rattle.jc_base.specs.LogEntry.{LogEntry}
use Rattle.jc_keeper.specs.Agree.{IsStored}
use Rattle.jc_ledger.specs.declared.owner.MachineDigest.{MachineDigest}
use Rattle.jc_runs.specs.Acknowledged.{AreAcknowledged}
use Rattle.jc_runs.specs.Between.{Between, IsInOne, MayBegin, journals, journals_of}
use Rattle.jc_runs.specs.Steps.{Step, answered_in, answers_of}

-- None of the journals has the key.
abbrev pub HaveNot : List Journal → Key → Type 0
HaveNot ms k = AllByRecursion (λ (m : Journal). get m k ≡ None) ms

-- No key is in two of the journals, unless it is one of these.
abbrev pub AreApartBut : (Key → Bool) → List Journal → Type 0
AreApartBut but [] = ⊤
AreApartBut but (m ∷ ms) = ((k : Key) → but k ≡ false → (get m k ≡ None) ⊎ HaveNot ms k) × AreApartBut but ms

-- What a journal has the past one has, unless its key is one of these.
abbrev pub IsPastBut : (Key → Bool) → (past : Journal) → Journal → Type 0
IsPastBut but past m = (e : LogEntry) → IsStored m e → IsStored past e ⊎ (but e.key ≡ true)

pub record Stands (b : Between) : Type 0 where
  -- A run may begin.
  pub begins : MayBegin b
  -- What is noted of earlier databases one of them has, or had.
  pub backed : (e : LogEntry) → IsStored b.past e → IsInOne (journals_of b.earlier) e
  -- What these have, or had, is noted, unless the note went or wasn't made.
  pub noted : AllByRecursion (IsPastBut b.forgotten b.past) (journals_of b.earlier)
  -- No key is in two databases, unless its note went or wasn't made.
  pub once : AreApartBut b.forgotten (journals b)

-- What steps lead to.
pub record Keeps (b : Between) (steps : List Step) (c : Between) : Type 0 where
  pub stands : Stands c
  -- Each entry that any line acknowledged is in one of the databases, or was as long as that was there.
  pub acknowledged : AllByRecursion (λ step. AreAcknowledged (IsInOne (journals c)) (answered_in step) (answers_of step)) steps
  -- So is what was stored before.
  pub stored : (e : LogEntry) → IsInOne (journals b) e → IsInOne (journals c) e
  -- Each sequence belongs to the machine that it belonged to, unless the note went.
  pub owners : (s : Id128) (machine : MachineDigest) → b.owner s ≡ Some machine → (c.owner s ≡ Some machine) ⊎ (c.released s ≡ true)
  -- What was forgotten, or released, stays so; what is not, was never.
  pub forgotten : (k : Key) → b.forgotten k ≡ true → c.forgotten k ≡ true
  pub released : (s : Id128) → b.released s ≡ true → c.released s ≡ true
