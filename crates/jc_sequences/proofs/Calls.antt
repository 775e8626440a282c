-- What a call makes of a file that is read off the record of its calls.
use Rattle.std.proofs.Common.{◌≡◌, ◌&&◌, ℕ, Bool, false, List, ◌∷◌, length, take, IsTrue, refl, sym, subst, inl, inr, arith}
use Rattle.std.proofs.lemmas.Bool.{and_parts}
use Rattle.sqlite_disk.specs.Disk.{Holds, Torn}
use Rattle.sqlite_disk.specs.Events.{agrees, overlaid}
use Rattle.sqlite_disk.specs.History.{MayLeave, Step, wrote}
use Rattle.sqlite_disk.proofs.EventLemmas.{Holds-agrees, Holds-overlaid, Torn-overlaid}

pub torn_same : (at n : ℕ) (file : List ℕ) → Torn at n file file
torn_same at n file = record { no_shorter = omega arith; no_longer = omega arith; below = λ _ _ _. refl; above = λ _ _ _. refl }

module _ (at : ℕ) (bytes : List ℕ) (seen : List ℕ) where
  module _ (all : take (length bytes) bytes ≡ bytes) where
    pub holds_written : Holds (overlaid seen at (take (length bytes) bytes)) at bytes
    holds_written = subst (λ (b : List ℕ). Holds (overlaid seen at b) at bytes) (sym all) (Holds-overlaid seen at bytes)

    pub torn_written : Torn at (length bytes) seen (overlaid seen at (take (length bytes) bytes))
    torn_written = subst (λ (b : List ℕ). Torn at (length bytes) seen (overlaid seen at b)) (sym all) (Torn-overlaid seen at bytes)

  -- a crash behind a write leaves what it left before, torn by the write
  pub follows : (now synced : List ℕ) (steps : List Step) → Torn at (length bytes) seen now → (c : List ℕ)
      → MayLeave false now synced (wrote at (length bytes) bytes ∷ steps) c
      → (d : List ℕ) × MayLeave false seen synced steps d × Torn at (length bytes) d c
  follows now synced steps torn c (inl same) = (seen, inl refl, subst (Torn at (length bytes) seen) (sym same) torn)
  follows now synced steps torn c (inr reached) = (reached.0, inr reached.1, reached.2.0)

pub read_holds : (before : Bool) (seen : List ℕ) (at : ℕ) (bytes : List ℕ) → IsTrue (before && agrees seen at bytes) → Holds seen at bytes
read_holds before seen at bytes honest = Holds-agrees seen at bytes (and_parts _ _ honest).1
