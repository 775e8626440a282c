-- What there is to explain of what a command tells, and what explanations say.
use Rattle.std.specs.Prelude.{◌≡◌, ◌==◌, ℕ, List, [], Option, Some, None, codes, if◌then◌else◌, string_bytes}
use Rattle.std.specs.declared.io.ErrorKind.{ErrorKind}
use Rattle.std.specs.declared.io.ErrorKind.TheVariants as kind
use Rattle.jc_base.specs.Fault.{number_of}
use Rattle.jc_base.specs.declared.fault.Code.TheVariants as code
use Rattle.jc_upload.specs.declared.answer.Answer.{Answer}
use Rattle.jc_upload.specs.declared.answer.Answer.TheVariants as answer
use Rattle.jc_command_shared.specs.declared.failure.Failure.{Failure}
use Rattle.jc_command_shared.specs.declared.failure.Failure.TheVariants as failure
use Rattle.jc_command_shared.specs.declared.found.Found.{Found}
use Rattle.jc_command_shared.specs.declared.found.Found.TheVariants as found
use Rattle.jc_render.specs.declared.cause.Cause.{Cause}
use Rattle.jc_render.specs.declared.cause.Cause.TheVariants as cause
use Rattle.jc_render.specs.declared.noting.Trouble.{Trouble}
use Rattle.jc_render.specs.declared.noting.Trouble.TheVariants.{Bad, Empty, Failed, Refused, Store, Unopened}

-- why a file of notes, or their folder, failed, by the kind of the system's error
abbrev pub fault_cause : ErrorKind → Cause
fault_cause kind.NotFound = cause.Missing
fault_cause kind.NotADirectory = cause.NotFolder
fault_cause kind.PermissionDenied = cause.Denied
fault_cause kind.WouldBlock = cause.InUse
fault_cause kind.ResourceBusy = cause.InUse
fault_cause kind.AlreadyExists = cause.InUse
fault_cause kind.StorageFull = cause.Full
fault_cause kind.QuotaExceeded = cause.Full
fault_cause kind.ReadOnlyFilesystem = cause.ReadOnly
fault_cause kind.IsADirectory = cause.NotPlain
fault_cause kind.Unsupported = cause.NotPlain
fault_cause _ = cause.Broken

-- what stands behind the name of a file that can't be used
abbrev pub text_of : Cause → List ℕ
text_of cause.Missing = codes "is missing: look at its name, and at the folders of its path"
text_of cause.Unmade = codes "is missing, and can't be made: see whether its folder is there, who may write in it, and whether the disk is read-only"
text_of cause.Folder = codes "is a folder: name a file"
text_of cause.NotFolder = codes "is to be a folder, or to lie in one, and something else is there: look at its path"
text_of cause.Unreadable = codes "may not be read by this user: see the rights of the file and of its folders"
text_of cause.Denied = codes "may not be read or written by this user: see its rights and those of its folders"
text_of cause.NotRegular = codes "is not a regular file: write what it gives into one first"
text_of cause.SecondName = codes "has a second name (a hard link), under which it could be changed: use a copy"
text_of cause.Empty = codes "is empty: a database is made by `collect`"
text_of cause.NotDatabase = codes "is no SQLite database, or a damaged one: look at its name"
text_of cause.OtherTables = codes "is an SQLite database with other tables than are asked for: see the guide on code 64"
text_of cause.NoTables = codes "is a database without tables: `collect` makes them"
text_of cause.InUse = codes "is in use by another program: wait until that one has ended"
text_of cause.Full = codes "has no more room: look at the space on its disk"
text_of cause.ReadOnly = codes "can't be written, since its disk is read-only: look at its mount"
text_of cause.NotPlain = codes "is no regular file with one name: put back the one that was there"
text_of cause.Broken = codes "failed: look at its disk, and whether the process has too many files open"
text_of cause.Unusable = codes "can't be opened to be written: see its rights, those of its folder and of its log, and whether SQLite's rollback journal lies beside it, which sqlite3 plays back"
text_of cause.Unknown = codes "can't be opened: look at its path, and whether the process has too many files open"

-- what a failure means, and what to do about it; nothing where a code says it
abbrev pub advice_of : Failure → List ℕ
advice_of failure.BadResume = codes "the resume file has something else in it: remove it and take a new id"
advice_of (failure.BadAnswer _) = codes "this line of standard input is no answer: give `ack` what `collect` printed"
advice_of (failure.BadLine _) = codes "this line of standard input isn't one that the command reads: see its manual page"
advice_of failure.BadUpload = codes "the file is no whole upload of an export stream: name one that `upload --whole` made"
advice_of failure.BadId = codes "an id is 32 hexadecimal digits: write it without dashes"
advice_of failure.BadFieldName = codes "a field's name has no `=` and no newline in it, and does not begin with `__`"
advice_of failure.BadDatabaseName = codes "SQLite takes a name that begins with `:` or `file:` for something else: write `./` in front of it"
advice_of failure.BadExportName = codes "the export would take the place of the database or of its log: choose another name"
advice_of (failure.CannotOpen _) = codes "the file can't be opened"
advice_of failure.ReadFailed = codes "a file or standard input gave no more bytes: is it a folder, or does its disk fail?"
advice_of failure.WriteFailed = codes "standard output or a file took no more bytes: is the disk full, or was a pipe closed?"
advice_of failure.StoreFailed = codes "the database failed while it was read or written: look at the space on its disk, and at the disk"
advice_of failure.OutOfMemory = codes "memory was refused: give the command more, or begin another database"
advice_of _ = []

-- a reading of no entries is one
abbrev pub empty_trouble : (entries left : ℕ) → Option Trouble
empty_trouble entries left = if entries == 0 then Some (Empty left) else None

abbrev pub found_trouble : Found → Option Trouble
found_trouble (found.Bad code place) = Some (Bad code)
found_trouble (found.Count entries None) = None
found_trouble (found.Count entries (Some left)) = empty_trouble entries left
found_trouble (found.Upload upload) = empty_trouble upload.entries upload.left

abbrev pub answer_trouble : Answer → Option Trouble
answer_trouble (answer.Ack source start count new left) = empty_trouble count left
answer_trouble (answer.No of code place) = Some (Refused code)

-- What there is to explain of a failure: the file that can't be opened, or what is to be done.
abbrev pub IsFailure : Failure → Trouble → Type 0
IsFailure (failure.Bad fault) trouble = trouble ≡ Bad (number_of fault.code)
IsFailure failure.SourceChanged trouble = trouble ≡ Refused (number_of code.SourceChanged)
IsFailure (failure.CannotOpen path) (Unopened name) = string_bytes name ≡ path.now
IsFailure (failure.CannotOpen path) trouble = ⊥
IsFailure failure.StoreFailed trouble = trouble ≡ Store
IsFailure failure.WordsAreNoText trouble = ⊥
IsFailure other (Failed advice) = advice.now ≡ advice_of other
IsFailure other trouble = ⊥
