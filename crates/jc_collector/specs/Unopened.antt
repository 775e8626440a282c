-- What a crash leaves of files while they are opened as a journal's. (own)
use Rattle.std.specs.Prelude.{◌≡◌, ◌⊎◌, ⊤, ℕ, List, Option, IfSome, IsSome}
use Rattle.sqlite.specs.Store.{Ghosts}
use Rattle.sqlite.specs.Recovery.{Image}
use Rattle.sqlite.specs.Held.{Held, state}
use Rattle.jc_base.specs.Journal.{Journal}
use Rattle.jc_command_args.specs.declared.request.Tables.{Tables}
use Rattle.jc_command_shared.specs.Deeds.{Deed}
use Rattle.jc_command_shared.specs.declared.failure.Failure.{Failure}
use Rattle.jc_command_shared.specs.declared.failure.Failure.TheVariants.{Bad, CannotOpen, OutOfMemory}
use Rattle.jc_store.specs.Statements.{IsBlank}
use Rattle.jc_database.specs.Files.{InFiles}
use Rattle.jc_database.specs.Left.{IsFrom, LeavesAsBeforeOr, LeavesOnly}
use Rattle.jc_collector.specs.Database.{IsDatabaseFault}
use Rattle.jc_collector.specs.Kinds.{BeginsIn, meaning_of}

-- With these files a run begins with the journal that it would have begun with before.
abbrev pub BeginsAgain : (made : Tables) → (before left : Image) → Type 0
BeginsAgain made before left = (kind : Tables) (found : Journal) → BeginsIn made kind before found → ∥ BeginsIn made kind left found ∥₁

-- Why the files of the database at a path may be kept back: it can't be opened, or memory was refused.
abbrev pub IsEarlyFailure : (path : List ℕ) → Failure → Type 0
IsEarlyFailure path (CannotOpen at) = at.now ≡ path
IsEarlyFailure path OutOfMemory = ⊤
IsEarlyFailure path _ = ⊥

-- What is left of the files of the database at a path is handed back, unless none was opened, or they may be kept back.
abbrev pub HandsBack : {L : Type 0} → (path : List ℕ) → Option L → Failure → (old new : Option (List Deed)) → Type 0
HandsBack path left failure old new = IsSome left ⊎ ((new ≡ old) ⊎ IsEarlyFailure path failure)

-- A failure that is a fault is one of a database's.
abbrev pub FaultsDatabase : Failure → Type 0
FaultsDatabase (Bad fault) = IsDatabaseFault fault
FaultsDatabase _ = ⊤

-- With whatever a crash leaves of the files a run begins so.
abbrev pub LeavesBegun : {S C L : Type 0} → InFiles S C L → (made : Tables) → (before : Image) → L → Type 0
LeavesBegun o made before left = LeavesOnly o (BeginsAgain made before) before left

-- What is left of the files of the database at a path, which weren't opened as a journal's, is handed back, and with it a run
-- begins so.
pub record IsLeftUnopened {S C L : Type 0} (o : InFiles S C L) (made : Tables) (path : List ℕ) (before : Image) (failure : Failure) (old new : Option (List Deed)) (left : Option L) : Type 0 where
  pub begins : IfSome left (LeavesBegun o made before)
  pub handed : HandsBack path left failure old new
  pub fault : FaultsDatabase failure

-- A crash leaves files as a connection without tables was opened from, or such with an empty journal in tables of this kind.
abbrev pub LeavesUnmade : {S C L : Type 0} → Ghosts S → InFiles S C L → (made : Tables) → (conn : Held S) → L → Type 0
LeavesUnmade g o made conn left =
    (before : Image) → IsFrom g before conn → IsBlank (state g conn).now → LeavesAsBeforeOr o (meaning_of made) before left
