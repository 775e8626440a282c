-- What `collect` makes of the union of finished databases and the one in its files. (own)
use Rattle.std.specs.Prelude.{◌≡◌, ◌⊎◌, ⊤, ℕ, List, Option}
use Rattle.sqlite.specs.Recovery.{Image}
use Rattle.jc_base.specs.Journal.{Journal}
use Rattle.jc_base.specs.LogEntry.{LogEntry}
use Rattle.jc_collector_answers.specs.Brought.{CollectsText}
use Rattle.jc_collector_answers.specs.Collected.{StoresFirstOf, those_named, told_within}
use Rattle.jc_collector_answers.specs.declared.name_lines.NameLines.TheVariants.{MachinesAndUploads}
use Rattle.jc_collector_answers.specs.Tied.{NamedWith}
use Rattle.jc_command_args.specs.declared.request.Tables.{Tables}
use Rattle.jc_command_shared.specs.declared.failure.Failure.{Failure}
use Rattle.jc_command_shared.specs.declared.failure.Failure.TheVariants.{Bad, ReadFailed}
use Rattle.jc_command_shared.specs.declared.status.Status.{Status}
use Rattle.jc_database.specs.Files.{EndsWith, InFiles}
use Rattle.jc_ledger.specs.Kept.{IsKept}
use Rattle.jc_ledger.specs.Known.{Known}
use Rattle.jc_ledger.specs.Owners.{Owner, whose_by}
use Rattle.jc_ledger.specs.Union.{union}
use Rattle.jc_collector.specs.Noted.{NotedFailsBy}
use Rattle.jc_collector.specs.Database.{CollectFailsBy}
use Rattle.jc_collector.specs.Kinds.{BeginsIn, meaning_of}
use Rattle.jc_collector.specs.OverFiles.{IsListed}

-- What a run does with the journal in the files that it began with, if their disks returned what was written and this holds
-- of that journal. The tables stay of their kind.
abbrev pub LeadsIf : (made : Tables) → {S C L : Type 0} → Image → InFiles S C L → C → (Holds : Journal → Type 0)
    → (Journal → Journal → Type 0) → Type 0
LeadsIf made image o files Holds Step =
    o.clean files → (kind : Tables) (before : Journal) → BeginsIn made kind image before → Holds before
    → EndsWith (meaning_of kind) o files (Step before)

-- The line of an answer was printed for each line of a text, and the status is theirs. They are the answers to the uploads in
-- the files that the lines name, by what is told of these, and each acknowledged one is stored in the union of the finished
-- databases and the present one. What is known is what these have.
-- What is noted of a database that was set aside counts as a finished one's. Of what else it has nothing is said: that may be
-- stored once more.
-- What is new of each line belongs to the machine that the line names. If 71 is answered to it, the entry at its place is of
-- a sequence that belongs to another one. A sequence comes to belong to a machine only if a line names that machine, and an
-- entry of the sequence is stored new, or the line is answered 62 or 63.
pub record StoresNotedNames (told : List ℕ → Option (List ℕ)) (past : Journal) (known : Known) (came : LogEntry → Type 0) (first owner : Owner) (text : Option (List ℕ)) (status : Status)
    (old new : Option (List ℕ)) (before after : Journal) : Type 0 where
  pub kept : IsKept known past after came
  pub stored : NamedWith (λ answers. StoresFirstOf (those_named told MachinesAndUploads text) (union past before) answers (union past after)) text status old new
  pub own : NamedWith (CollectsText told MachinesAndUploads (whose_by first) (whose_by owner) text (union past before) (union past after)) text status old new

-- The same of an answer for each line of a list, where windows of sequences may be bounded.
pub record StoresNotedFromList (told : List ℕ → Option (List ℕ)) (most_windows : Option ℕ) (past : Journal) (known : Known) (came : LogEntry → Type 0) (first owner : Owner) (list : List ℕ) (given : Option (List ℕ))
    (status : Status) (old new : Option (List ℕ)) (before after : Journal) : Type 0 where
  pub text : Option (List ℕ)
  pub listed : IsListed told list given text
  pub stored : StoresNotedNames (told_within most_windows told) past known came first owner text status old new before after

-- Why a run over a union whose uploads lines name fails, once its present database is open.
abbrev pub UnionStopsBy : Failure → Type 0
UnionStopsBy failure = NotedFailsBy failure ⊎ (failure ≡ ReadFailed)

-- Why a command over a union fails: with a fault, of which what it leaves says more, or as another command over a database does
-- that reads files with these paths, and may export.
abbrev pub UnionFailsBy : (database : List ℕ) → (paths : List (List ℕ)) → (at : Option (List ℕ)) → Failure → Type 0
UnionFailsBy database paths at (Bad fault) = ⊤
UnionFailsBy database paths at failure = CollectFailsBy database paths at failure
