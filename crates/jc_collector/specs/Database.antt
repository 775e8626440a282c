-- The databases that commands work on, and why one of these commands fails. (own)
use Rattle.std.specs.Prelude.{◌≡◌, ◌⊎◌, ℕ, List, take, Option, None, Some, IsSome, IsSomeAnd, ⊤, codes}
use Rattle.std.specs.Io.KnownBytes.{Appends, append_known}
use Rattle.std.specs.List.{Contains}
use Rattle.jc_base.specs.declared.fault.Code.TheVariants.{BadRow, NotAJournal, OldSchema}
use Rattle.jc_base.specs.declared.fault.Fault.{Fault}
use Rattle.jc_base.specs.declared.id.Id128.{Id128}
use Rattle.jc_base.specs.Journal.{Journal}
use Rattle.jc_keeper.specs.Listing.{field_text, show_text}
use Rattle.jc_keeper.specs.declared.form.Shape.{Shape}
use Rattle.jc_command_shared.specs.Ids.{IsIdOf, IsIdText}
use Rattle.jc_command_shared.specs.Names.{IsFieldName}
use Rattle.jc_command_shared.specs.declared.failure.Failure.{Failure}
use Rattle.jc_command_shared.specs.declared.failure.Failure.TheVariants.{Bad, BadDatabaseName, BadExportName, BadFieldName, BadId, CannotOpen, OutOfMemory, ReadFailed, StoreFailed, WriteFailed}

-- A name that SQLite doesn't take for a path.
abbrev pub IsBadName : List ℕ → Type 0
IsBadName name = (take 1 name ≡ codes ":") ⊎ (take 5 name ≡ codes "file:")

-- A database has no journal of this version or one of an older version, which is not the fault of a row, or a row that
-- isn't an entry.
abbrev pub IsDatabaseFault : Fault → Type 0
IsDatabaseFault fault =
    (fault.code ≡ BadRow) ⊎ (((fault.code ≡ NotAJournal) ⊎ (fault.code ≡ OldSchema)) × (fault.place ≡ 0))

-- Why the tables of an open database aren't a journal's, or why they couldn't be made.
abbrev pub WhyNoTables : Failure → Type 0
WhyNoTables (Bad fault) = IsDatabaseFault fault
WhyNoTables StoreFailed = ⊤
WhyNoTables OutOfMemory = ⊤
WhyNoTables _ = ⊥

-- Why there is no journal in the database at a path.
abbrev pub WhyNoJournal : (path : List ℕ) → Failure → Type 0
WhyNoJournal path (CannotOpen at) = at.now ≡ path
WhyNoJournal path failure = WhyNoTables failure

-- Why a database that is open fails.
abbrev pub IsStoreFailure : Failure → Type 0
IsStoreFailure failure = (failure ≡ StoreFailed) ⊎ (failure ≡ OutOfMemory)

-- Why a listing stopped.
abbrev pub IsOutFailure : Failure → Type 0
IsOutFailure failure = (failure ≡ WriteFailed) ⊎ (failure ≡ StoreFailed) ⊎ (failure ≡ OutOfMemory)

-- Why answering the uploads that a list names stopped.
abbrev pub MayEndNames : Failure → Type 0
MayEndNames failure = (failure ≡ ReadFailed) ⊎ IsOutFailure failure

-- Why answering uploads stopped, of which these may have to be read to be known.
abbrev pub MayStop : (AreRead : Type 0) → Failure → Type 0
MayStop AreRead failure = (AreRead × (failure ≡ ReadFailed)) ⊎ IsOutFailure failure

-- Why a command over a database fails: its name isn't taken, there is no journal, or a device or memory fails.
abbrev pub DatabaseFailsBy : (database : List ℕ) → Failure → Type 0
DatabaseFailsBy database BadDatabaseName = IsBadName database
DatabaseFailsBy database WriteFailed = ⊤
DatabaseFailsBy database failure = WhyNoJournal database failure

-- Why a command over a database that reads uploads too, from files with these paths, fails. An export's name is refused only if
-- one is given. No contract can name which file stands under a name, and so whether that of an export is the database's.
abbrev pub CollectFailsBy : (database : List ℕ) → (uploads : List (List ℕ)) → (at : Option (List ℕ)) → Failure → Type 0
CollectFailsBy database uploads at (CannotOpen path) = (path.now ≡ database) ⊎ Contains uploads path.now
CollectFailsBy database uploads at BadExportName = IsSome at
CollectFailsBy database uploads at ReadFailed = ⊤
CollectFailsBy database uploads at failure = DatabaseFailsBy database failure

-- The id that a listing asks for is the one that the digits spell, if they are given.
abbrev pub AsksId : (digits : Option (List ℕ)) → Option Id128 → Type 0
AsksId None id = id ≡ None
AsksId (Some digits) None = ⊥
AsksId (Some digits) (Some id) = IsIdOf digits id

-- The lines or objects of a journal's entries that are asked for, with the field of this name, or else with the message.
abbrev pub asked_text : Shape → (name : Option (List ℕ)) → Journal → Option Id128 → (first last : ℕ) → List ℕ
asked_text shape None m id first last = show_text shape m id first last
asked_text shape (Some name) m id first last = field_text shape name m id first last

-- Why `show` fails: no entry has a field of this name, the digits spell no id, or it fails as another command over a
-- database does.
abbrev pub ShowFailsBy : (database : List ℕ) → (field digits : Option (List ℕ)) → Failure → Type 0
ShowFailsBy database field digits BadFieldName = IsSomeAnd field (λ text. ¬ IsFieldName text)
ShowFailsBy database field digits BadId = IsSomeAnd digits (λ text. ¬ IsIdText text)
ShowFailsBy database field digits failure = DatabaseFailsBy database failure

-- Why `check` or `migrate` prints nothing. What is wrong with the tables of a database, they print.
abbrev pub WhyNoHealth : (path : List ℕ) → Failure → Type 0
WhyNoHealth path (Bad fault) = ⊥
WhyNoHealth path failure = WhyNoJournal path failure

abbrev pub CheckFailsBy : (database : List ℕ) → Failure → Type 0
CheckFailsBy database (Bad fault) = ⊥
CheckFailsBy database failure = DatabaseFailsBy database failure

-- ---- what is printed in part

-- What an output has now begins what it would have with the whole text behind what it had.
abbrev pub PrintsFront : (old new : Option (List ℕ)) → (text : List ℕ) → Type 0
PrintsFront old new text = (lacking : List ℕ) × Appends old (append_known new lacking) text
