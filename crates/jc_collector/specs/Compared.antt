-- What comes of a comparison of a database with its notes. (own)
use Rattle.std.specs.Prelude.{◌≡◌, ◌⊎◌, ℕ, List, MatchOption, Option, Some}
use Rattle.sqlite.specs.Recovery.{Image}
use Rattle.jc_base.specs.Fault.{number_of}
use Rattle.jc_base.specs.Journal.{Journal}
use Rattle.jc_collector.specs.Database.{IsDatabaseFault}
use Rattle.jc_collector.specs.Kinds.{LeadsThere}
use Rattle.jc_collector.specs.declared.comparing.Comparison.{Comparison}
use Rattle.jc_collector.specs.declared.comparing.Comparison.TheVariants.{Agrees, Bad}
use Rattle.jc_command_shared.specs.Found.{PrintsFound}
use Rattle.jc_command_shared.specs.declared.failure.Failure.{Failure}
use Rattle.jc_command_shared.specs.declared.failure.Failure.TheVariants.{OutOfMemory, ReadFailed, StoreFailed}
use Rattle.jc_command_shared.specs.declared.found.Found.{Found}
use Rattle.jc_command_shared.specs.declared.found.Found.TheVariants as found
use Rattle.jc_command_shared.specs.declared.status.Status.{Status}
use Rattle.jc_database.specs.Files.{InFiles}

-- The notes or the database can't be read, or memory is refused.
abbrev pub ComparingFails : Failure → Type 0
ComparingFails failure = (failure ≡ ReadFailed) ⊎ (failure ≡ StoreFailed) ⊎ (failure ≡ OutOfMemory)

-- what is found then
abbrev pub comparison_found : Comparison → Found
comparison_found (Agrees count lacking) = found.Count count (Some lacking)
comparison_found (Bad fault) = found.Bad (number_of fault.code) fault.place

-- There is nothing to compare: what is wrong is one of a database's faults.
abbrev pub HasNoJournal : Comparison → Type 0
HasNoJournal (Agrees count lacking) = ⊥
HasNoJournal (Bad fault) = IsDatabaseFault fault

-- A journal is what it was.
abbrev pub Stays : (before after : Journal) → Type 0
Stays before after = after ≡ before

-- The files are given back with the journal that they had, or the comparison says that they have none.
abbrev pub LeavesCompared : {S C L : Type 0} → Image → InFiles S C L → Comparison → Option C → Type 0
LeavesCompared image o comparison files = MatchOption files (HasNoJournal comparison) (λ closed. LeadsThere image o closed Stays)

-- A journal was compared with its notes: the output gained the line that says so, the status is the line's, and the files
-- keep the journal.
pub record ComparesNoted {S C L : Type 0} (image : Image) (o : InFiles S C L) (files : Option C) (status : Status) (old new : Option (List ℕ)) : Type 0 where
  pub comparison : Comparison
  pub printed : PrintsFound (comparison_found comparison) status old new
  pub kept : LeavesCompared image o comparison files
