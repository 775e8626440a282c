-- A journal in a database in memory, and uploads in memory, as contracts see them. (own)
use Rattle.std.specs.Prelude.{ℕ, List, [], Option, map, refl}
use Rattle.std.specs.Coded.{Coded, code_by, coded×, coded_ℕ}
use Rattle.std.specs.FinMap as finite
use Rattle.jc_base.specs.declared.limits.Limits.{Limits}
use Rattle.jc_base.specs.Journal.{Journal}
use Rattle.jc_keeper.specs.Coded.{coded_key, coded_body}
use Rattle.jc_collect.specs.declared.runs.RunEnd.{RunEnd}
use Rattle.jc_collect.specs.Run.{IsRun, seen}

-- a journal, and how often the store below it has failed
pub record InMemory : Type 0 where
  pub journal : Journal
  pub failures : ℕ

abbrev pub in_memory_code : Coded InMemory
in_memory_code =
    code_by (Journal × ℕ) (coded× (finite.code coded_key coded_body) coded_ℕ) (λ m. (m.journal, m.failures))
    (λ p. record { journal = p.0; failures = p.1 }) (λ _. refl)

-- how often the devices of uploads in memory have failed
abbrev pub no_failures : List (List ℕ) → List ℕ
no_failures uploads = map (λ _. 0) uploads

-- A run over uploads in memory into a journal in memory, which ended so, and what the sink of its lines had before and
-- after it. What the uploads' devices have left isn't said: that is asked of failed readings alone, and there are none.
abbrev pub IsRunInMemory : Limits → (uploads : List (List ℕ)) → (before : InMemory) → (written : Option (List ℕ)) → RunEnd
    → (after : InMemory) → (written_after : Option (List ℕ)) → Type 0
IsRunInMemory limits uploads before written end after written_after =
    IsRun limits uploads (seen before.journal before.failures (no_failures uploads) [] written)
    end (seen after.journal after.failures (no_failures uploads) [] written_after)
