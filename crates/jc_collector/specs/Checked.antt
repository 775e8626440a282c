-- What `check` and `migrate` say of a database. (own)
use Rattle.std.specs.Prelude.{◌≡◌, ℕ, List, [], ◌∷◌, ◌++◌, Option, None, ⊤}
use Rattle.std.specs.FinMap.{len}
use Rattle.jc_base.specs.Fault.{number_of}
use Rattle.jc_base.specs.Journal.{Journal}
use Rattle.jc_collector.specs.Database.{IsDatabaseFault}
use Rattle.jc_collector.specs.declared.health.Health.{Health}
use Rattle.jc_collector.specs.declared.health.Health.TheVariants.{Whole, Bad}
use Rattle.jc_command_shared.specs.Found.{PrintsFound, found_status, found_text}
use Rattle.jc_command_shared.specs.declared.found.Found.{Found}
use Rattle.jc_command_shared.specs.declared.found.Found.TheVariants as found
use Rattle.jc_command_shared.specs.declared.status.Status.{Status}

-- what is found then
abbrev pub health_found : Health → Found
health_found (Whole count) = found.Count count None
health_found (Bad fault) = found.Bad (number_of fault.code) fault.place

-- What is wrong is one of a database's faults.
abbrev pub IsHealth : Health → Type 0
IsHealth (Whole count) = ⊤
IsHealth (Bad fault) = IsDatabaseFault fault

abbrev pub health_status : Health → Status
health_status health = found_status (health_found health)

-- The output gained the line, and the status is its own.
abbrev pub PrintsHealth : Health → Status → (old new : Option (List ℕ)) → Type 0
PrintsHealth health status old new = PrintsFound (health_found health) status old new

-- the line of a journal: `ok`, how many entries it has, and the newline
abbrev pub count_line : Journal → List ℕ
count_line journal = found_text (found.Count (len journal) None) ++ 10 ∷ []

-- The entries of the journal were counted, and it stays.
pub record Counts (health : Health) (before after : Journal) : Type 0 where
  pub counted : health ≡ Whole (len before)
  pub stays : after ≡ before
