-- What a command works on, and what is said of what it told.
use Rattle.std.specs.Prelude.{◌≡◌, ◌≢◌, ◌⊎◌, ◌==◌, ◌++◌, ◌∷◌, [], ℕ, List, Option, Some, None, false, IsSome, IfSome, IsSomeAnd, MatchOption, codes, decimal, bytes_eq, if◌then◌else◌, option_map, string_bytes, take, Contains}
use Rattle.std.specs.Io.KnownBytes.{Appends, Keeps}
use Rattle.std.specs.List.{find, list_any}
use Rattle.clap.specs.declared.error.kind.ErrorKind.{ErrorKind}
use Rattle.clap.specs.declared.error.kind.ErrorKind.TheVariants.{OutOfMemory}
use Rattle.jc_codes.specs.Rows.{IsRow}
use Rattle.jc_codes.specs.declared.table.Coded.{Coded}
use Rattle.jc_command_args.specs.Words.{AreAnswered, AskFor}
use Rattle.jc_command_args.specs.declared.request.Request.{Request}
use Rattle.jc_command_args.specs.declared.request.Request.TheVariants as request
use Rattle.jc_command_shared.specs.declared.failure.Failure.TheVariants as failure
use Rattle.jc_sequences.specs.declared.faults.Fault.{Fault}
use Rattle.jc_render.specs.Texts.{advice_of, fault_cause, text_of}
use Rattle.jc_render.specs.declared.cause.Cause.{Cause}
use Rattle.jc_render.specs.declared.cause.Cause.TheVariants as cause
use Rattle.jc_render.specs.declared.why.Subject.{Subject}
use Rattle.jc_render.specs.declared.noting.Trouble.{Trouble}
use Rattle.jc_render.specs.declared.noting.Trouble.TheVariants as trouble
use Rattle.jc_render.specs.declared.witness.Noted.{Noted}
use Rattle.jc_render.specs.declared.witness.Seen.{Seen}

-- the database that a request works on
abbrev pub database_in : Request → Option (List ℕ)
database_in (request.Collect database tables uploads then_export) = Some database.now
database_in (request.CollectListed database tables list then_export) = Some database.now
database_in (request.CollectIntoUnion database tables list sequences most_windows then_export) = Some database.now
database_in (request.Export database) = Some database.now
database_in (request.Show database field id first last) = Some database.now
database_in (request.Check database) = Some database.now
database_in (request.CheckNoted database sequences) = Some database.now
database_in (request.Migrate database tables) = Some database.now
database_in _ = None

-- the folder in which is noted what databases have, if it works with one
abbrev pub sequences_in : Request → Option (List ℕ)
sequences_in (request.CollectIntoUnion database tables list sequences most_windows then_export) = Some sequences.now
sequences_in (request.CheckNoted database sequences) = Some sequences.now
sequences_in (request.Notes sequences task) = Some sequences.now
sequences_in (request.ListOwners sequences) = Some sequences.now
sequences_in (request.RenameOwner sequences old new) = Some sequences.now
sequences_in (request.ReleaseSequence sequences sequence) = Some sequences.now
sequences_in _ = None

-- the database and the folder that a command names
abbrev pub database_of : Subject → Option (List ℕ)
database_of subject = option_map (λ path. path.now) subject.database

abbrev pub sequences_of : Subject → Option (List ℕ)
sequences_of subject = option_map (λ path. path.now) subject.sequences

-- What words ask to be worked on; nothing if they are answered with a mistake or with help, or memory was refused to read
-- them. Beside it stands what was seen of files.
pub data IsSubjectOf (words : List (List ℕ)) (seen : Seen) (subject : Subject) : Type 0 where
  named : (request : Request) → AskFor words request → database_of subject ≡ database_in request → sequences_of subject ≡ sequences_in request
      → subject.seen ≡ seen → IsSubjectOf words seen subject
  answered : (kind : ErrorKind) → (kind ≡ OutOfMemory) ⊎ AreAnswered words kind → database_of subject ≡ None → sequences_of subject ≡ None
      → subject.seen ≡ seen → IsSubjectOf words seen subject

-- a file's name, and what is told of it
abbrev pub file_text : (path : List ℕ) → Cause → List ℕ
file_text path told = path ++ 32 ∷ text_of told

-- a code with its name and its meaning, and what stands behind them
abbrev pub code_text : (code : ℕ) → Coded → (behind : List ℕ) → List ℕ
code_text code row behind =
    decimal code ++ 32 ∷ (row.name.now ++ (codes " (" ++ (row.meaning.now ++ (codes "): " ++ behind))))

-- what it means that there was no complete entry, with so many bytes left
abbrev pub empty_text : (left : ℕ) → List ℕ
empty_text left =
    if left == 0 then codes "there was nothing to read: it has no entries"
    else codes "no entry is complete: the " ++ (decimal left ++ codes " bytes end within the first one, or are no journal's")

-- what was noted last of a file: the latest notes stand first
abbrev pub noted_cause : (notes : List Noted) (path : List ℕ) → Option Cause
noted_cause notes path = option_map (λ noted. noted.cause) (find (λ noted. bytes_eq (string_bytes noted.path) path) notes)

-- what is noted of what failed of the notes of sequences
abbrev pub noted_fault : Fault → Noted
noted_fault fault = record { path = fault.path; cause = fault_cause fault.kind }

-- what is said of a file of notes that failed
abbrev pub notes_text : Noted → List ℕ
notes_text noted = codes "the file of notes " ++ file_text (string_bytes noted.path) noted.cause

-- why a file is taken for no journal's database, by what was noted of it: it was opened, or it wasn't
abbrev pub no_journal_cause : Cause → Cause
no_journal_cause cause.NoTables = cause.OtherTables
no_journal_cause _ = cause.NotDatabase

-- the line of an explanation
abbrev pub told_line : List ℕ → List ℕ
told_line text = codes "explain: " ++ (text ++ 10 ∷ [])

module _ (subject : Subject) where
  -- why this file, or the folder of notes, can't be opened, as was noted when the run asked for it
  pub data IsWhy (path : List ℕ) (told : Cause) : Type 0 where
    asked : noted_cause subject.seen.files.items path ≡ Some told → IsWhy path told
    folder : noted_cause subject.seen.files.items path ≡ None
        → IsSomeAnd subject.seen.notes (λ noted. (string_bytes noted.path ≡ path) × (told ≡ noted.cause)) → IsWhy path told
    unseen : noted_cause subject.seen.files.items path ≡ None
        → IfSome subject.seen.notes (λ noted. string_bytes noted.path ≢ path) → told ≡ cause.Unknown → IsWhy path told

  -- Of a file that can't be opened a cause is told.
  abbrev pub SaysUnopened : (path text : List ℕ) → Type 0
  SaysUnopened path text = (told : Cause) × IsWhy path told × (text ≡ file_text path told)

  -- What a code means by the table, and what to do or, of a database that has no journal, why it is taken for none.
  abbrev pub SaysCode : (table : List ℕ) (code : ℕ) (text : List ℕ) → Type 0
  SaysCode table code text = (row : Coded) × IsRow code table row
      × (((¬ ((code ≡ 64) × IsSome subject.database)) × (text ≡ code_text code row row.advice.now))
      ⊎ ((path : List ℕ) × (noted : Cause) × (code ≡ 64) × (database_of subject ≡ Some path) × IsWhy path noted
      × (text ≡ code_text code row (file_text path (no_journal_cause noted)))))

  -- An entry of the database isn't the one that is noted in the folder: the code is 60, and the two are named.
  pub record Differs (code : ℕ) (path folder : List ℕ) : Type 0 where
    pub is : code ≡ 60
    pub database : database_of subject ≡ Some path
    pub sequences : sequences_of subject ≡ Some folder

  -- What is said of what failed of the notes; if nothing did, it was the database.
  abbrev pub SaysStore : (text : List ℕ) → Type 0
  SaysStore text = MatchOption subject.seen.notes (text ≡ advice_of failure.StoreFailed) (λ noted. text ≡ notes_text noted)

  -- What is said of a refusal: of a store that failed which of the notes did.
  abbrev pub SaysRefused : (table : List ℕ) (code : ℕ) (text : List ℕ) → Type 0
  SaysRefused table code text =
      (IsSomeAnd subject.seen.notes (λ noted. (code ≡ 62) × (text ≡ notes_text noted)))
      ⊎ ((¬ ((code ≡ 62) × IsSome subject.seen.notes)) × SaysCode table code text)

  -- What is said of a fault of a file or a database.
  abbrev pub SaysBad : (table : List ℕ) (code : ℕ) (text : List ℕ) → Type 0
  SaysBad table code text =
      ((path : List ℕ) × (folder : List ℕ) × Differs code path folder × (text ≡ codes "an entry of "
      ++ (path ++ (codes " isn't the one that is noted in " ++ (folder ++ codes ": the guide, \"A machine that was set back\"")))))
      ⊎ (((path folder : List ℕ) → ¬ Differs code path folder) × SaysRefused table code text)

  -- What is said of this.
  abbrev pub Explains : (table : List ℕ) → Trouble → (text : List ℕ) → Type 0
  Explains table (trouble.Bad code) text = SaysBad table code text
  Explains table (trouble.Refused code) text = SaysRefused table code text
  Explains table (trouble.Empty left) text = text ≡ empty_text left
  Explains table (trouble.Unopened path) text = SaysUnopened (string_bytes path) text
  Explains table trouble.Store text = SaysStore text
  Explains table (trouble.Failed advice) text = text ≡ advice.now

  -- Explanations of these alone, none twice, and their lines, one behind the other.
  pub data AreExplanations (table : List ℕ) (given : List Trouble) : (texts : List (List ℕ)) (lines : List ℕ) → Type 0 where
    none : AreExplanations table given [] []
    more : (texts : List (List ℕ)) (lines : List ℕ) (it : Trouble) (text : List ℕ) → AreExplanations table given texts lines → Contains given it
        → Explains table it text → list_any (λ told. bytes_eq told text) texts ≡ false → AreExplanations table given (texts ++ text ∷ []) (lines ++ told_line text)

  -- Explanations of these went out, the last of which may be cut short.
  abbrev pub Tells : (table : List ℕ) (given : List Trouble) (old new : Option (List ℕ)) → Type 0
  Tells table given old new =
      (texts : List (List ℕ)) × (lines : List ℕ) × (count : ℕ) × AreExplanations table given texts lines × Appends old new (take count lines)

-- Nothing went out, or explanations of what words ask to be worked on; what was told and seen isn't known.
abbrev pub TellsOn : (words : List (List ℕ)) (table : List ℕ) (old new : Option (List ℕ)) → Type 0
TellsOn words table old new =
    Keeps old new ⊎ ((seen : Seen) × (given : List Trouble) × (subject : Subject) × IsSubjectOf words seen subject × Tells subject table given old new)
