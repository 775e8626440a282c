-- What the arguments of the command line ask for, in clap's own terms. (own)
use Rattle.std.specs.Prelude.{◌≡◌, ◌⊎◌, ◌↔◌, ◌<◌, ◌^◌, ◌-◌, ⊤, ℕ, IsTrue, [], List, Option, Some, None, codes, map, option_map, unwrap_or}
use Rattle.std.specs.Str.Parse.{IsNumeral, digits_value, without_leading_plus}
use Rattle.clap.specs.Words.{App, Text, Row, all_of, first_of, fault_of, found_of, IsAmong, rows_of, subcommand_of}
use Rattle.clap.specs.declared.parser.matches.ArgMatches.{ArgMatches}
use Rattle.clap.specs.declared.error.kind.ErrorKind.{ErrorKind}
use Rattle.clap.specs.declared.error.kind.ErrorKind.TheVariants.{ArgumentConflict}
use Rattle.jc_command_args.specs.Answer.{IsAskedFor}
use Rattle.jc_command_args.specs.Grammar.{IsGrammar, kind_name, tables_name, task_name}
use Rattle.jc_command_args.specs.declared.request.Request.{Request}
use Rattle.jc_command_args.specs.declared.request.Request.TheVariants.{Collect, CollectListed, CollectIntoUnion, Export, Show, Check, CheckNoted, Notes, ListOwners, RenameOwner, ReleaseSequence, Migrate, Verify, Inspect, Upload, Ack, Acknowledged, ListCodes}
use Rattle.jc_command_args.specs.declared.request.Source.{Source}
use Rattle.jc_command_args.specs.declared.request.Tables.{Tables}
use Rattle.jc_command_args.specs.declared.request.Tables.TheVariants.{ByKey}

abbrev pub command_name : Request → Text
command_name (Collect database tables uploads then_export) = codes "collect"
command_name (CollectListed database tables list then_export) = codes "collect"
command_name (CollectIntoUnion database tables list sequences most_windows then_export) = codes "collect"
command_name (Export database) = codes "export"
command_name (Show database field id first last) = codes "show"
command_name (Check database) = codes "check"
command_name (CheckNoted database sequences) = codes "check"
command_name (Notes sequences task) = codes "notes"
command_name (ListOwners sequences) = codes "owners"
command_name (RenameOwner sequences old new) = codes "owners"
command_name (ReleaseSequence sequences sequence) = codes "owners"
command_name (Migrate database tables) = codes "migrate"
command_name (Verify kind file) = codes "verify"
command_name (Inspect file most_entries most_fields most_bytes most_windows) = codes "inspect"
command_name (Upload source limit most_bytes whole) = codes "upload"
command_name (Ack source) = codes "ack"
command_name (Acknowledged upload) = codes "acknowledged"
command_name ListCodes = codes "codes"

-- the value of an argument is this text
abbrev pub IsGiven : List Row → (name text : Text) → Type 0
IsGiven rows name text = first_of name rows ≡ Some text

-- the values of an argument, in their order on the command line
abbrev pub all_given : List Row → Text → List Text
all_given rows name = unwrap_or (all_of name rows) []

-- The values of a command's arguments name this source.
pub record NameSource (rows : List Row) (source : Source) : Type 0 where
  pub kind : IsGiven rows (codes "KIND") (kind_name source.kind)
  pub id : IsGiven rows (codes "source") source.id.now
  pub resume : IsGiven rows (codes "resume") source.resume.now
  pub file : IsGiven rows (codes "IN") source.file.now

-- The number that an argument's value is, in decimal digits; a given one if there is no value.
abbrev pub IsNumberOr : (unless_given : ℕ) → Option Text → ℕ → Type 0
IsNumberOr unless_given None number = number ≡ unless_given
IsNumberOr unless_given (Some text) number =
    IsNumeral 10 (without_leading_plus text) × (digits_value 10 (without_leading_plus text) ≡ number) × (number < 2 ^ 64)

-- ... or none, if there is no value.
abbrev pub IsNumberIfGiven : Option Text → Option ℕ → Type 0
IsNumberIfGiven None number = number ≡ None
IsNumberIfGiven (Some text) None = ⊥
IsNumberIfGiven (Some text) (Some number) = IsNumberOr 0 (Some text) number

-- The tables that an argument's value names; given ones if there is no value.
abbrev pub AreTablesOr : (unless_given : Tables) → Option Text → Tables → Type 0
AreTablesOr unless_given None tables = tables ≡ unless_given
AreTablesOr unless_given (Some text) tables = tables_name tables ≡ text

-- The values of a command's arguments ask for this. Without `--tables` they are by key, without `--limit` it is 1,000,
-- without `--bytes` they aren't bounded, and without `--from` and `--to` the range is that of all numbers. Without
-- `--most-..` a bound is 2^63 - 1. clap's value of `--whole` is `true` where it is given.
abbrev pub AskBy : List Row → Request → Type 0
AskBy rows (Collect database tables uploads then_export) =
    IsGiven rows (codes "DB") database.now × AreTablesOr ByKey (first_of (codes "tables") rows) tables
    × (map (λ upload. upload.now) uploads.items ≡ all_given rows (codes "UPLOAD"))
    × (first_of (codes "files-from") rows ≡ None) × (first_of (codes "sequences") rows ≡ None) × (first_of (codes "most-windows") rows ≡ None)
    × (option_map (λ path. path.now) then_export ≡ first_of (codes "then-export") rows)
AskBy rows (CollectListed database tables list then_export) =
    IsGiven rows (codes "DB") database.now × AreTablesOr ByKey (first_of (codes "tables") rows) tables
    × IsGiven rows (codes "files-from") list.now × (all_given rows (codes "UPLOAD") ≡ []) × (first_of (codes "sequences") rows ≡ None)
    × (first_of (codes "most-windows") rows ≡ None)
    × (option_map (λ path. path.now) then_export ≡ first_of (codes "then-export") rows)
AskBy rows (CollectIntoUnion database tables list sequences most_windows then_export) =
    IsGiven rows (codes "DB") database.now × AreTablesOr ByKey (first_of (codes "tables") rows) tables
    × IsGiven rows (codes "files-from") list.now × (all_given rows (codes "UPLOAD") ≡ []) × IsGiven rows (codes "sequences") sequences.now
    × IsNumberIfGiven (first_of (codes "most-windows") rows) most_windows
    × (option_map (λ path. path.now) then_export ≡ first_of (codes "then-export") rows)
AskBy rows (Export database) = IsGiven rows (codes "DB") database.now
AskBy rows (Show database field id first last) =
    IsGiven rows (codes "DB") database.now × (option_map (λ name. name.now) field ≡ first_of (codes "field") rows)
    × (option_map (λ hex. hex.now) id ≡ first_of (codes "id") rows)
    × IsNumberOr 0 (first_of (codes "from") rows) first × IsNumberOr (2 ^ 63 - 1) (first_of (codes "to") rows) last
AskBy rows (Check database) = IsGiven rows (codes "DB") database.now × (first_of (codes "sequences") rows ≡ None)
AskBy rows (CheckNoted database sequences) = IsGiven rows (codes "DB") database.now × IsGiven rows (codes "sequences") sequences.now
AskBy rows (Notes sequences task) = IsGiven rows (codes "sequences") sequences.now × IsGiven rows (codes "TASK") (task_name task)
AskBy rows (ListOwners sequences) =
    IsGiven rows (codes "sequences") sequences.now × (first_of (codes "rename") rows ≡ None) × (first_of (codes "NEW") rows ≡ None)
    × (first_of (codes "release") rows ≡ None)
AskBy rows (RenameOwner sequences old new) =
    IsGiven rows (codes "sequences") sequences.now × IsGiven rows (codes "rename") old.now × IsGiven rows (codes "NEW") new.now
    × (first_of (codes "release") rows ≡ None)
AskBy rows (ReleaseSequence sequences sequence) =
    IsGiven rows (codes "sequences") sequences.now × (first_of (codes "rename") rows ≡ None) × (first_of (codes "NEW") rows ≡ None)
    × IsGiven rows (codes "release") sequence.now
AskBy rows (Migrate database tables) =
    IsGiven rows (codes "DB") database.now × AreTablesOr ByKey (first_of (codes "tables") rows) tables
AskBy rows (Verify kind file) = IsGiven rows (codes "KIND") (kind_name kind) × IsGiven rows (codes "FILE") file.now
AskBy rows (Inspect file most_entries most_fields most_bytes most_windows) =
    IsGiven rows (codes "FILE") file.now × IsNumberOr (2 ^ 63 - 1) (first_of (codes "most-entries") rows) most_entries
    × IsNumberOr (2 ^ 63 - 1) (first_of (codes "most-fields") rows) most_fields
    × IsNumberOr (2 ^ 63 - 1) (first_of (codes "most-bytes") rows) most_bytes
    × IsNumberOr (2 ^ 63 - 1) (first_of (codes "most-windows") rows) most_windows
AskBy rows (Upload source limit most_bytes whole) =
    NameSource rows source × IsNumberOr 1000 (first_of (codes "limit") rows) limit
    × IsNumberIfGiven (first_of (codes "bytes") rows) most_bytes
    × (IsTrue whole ↔ IsGiven rows (codes "whole") (codes "true"))
AskBy rows (Ack source) = NameSource rows source
AskBy rows (Acknowledged upload) = IsGiven rows (codes "UPLOAD") upload.now
AskBy rows ListCodes = ⊤

-- ... or for nothing that this command does.
abbrev pub AsksNone : List Row → Text → Type 0
AsksNone rows name = (request : Request) → command_name request ≡ name → ¬ AskBy rows request

-- the values of a command's arguments
abbrev pub given_rows : ArgMatches → List Row
given_rows given = rows_of (found_of given)

-- A command and the values of its arguments ask for this.
abbrev pub Asks : Text × List Row → Request → Type 0
Asks found request = (found.0 ≡ command_name request) × AskBy found.1 request

-- ... or for nothing that there is.
abbrev pub AsksNothing : Option (Text × List Row) → Type 0
AsksNothing None = ⊤
AsksNothing (Some found) = (request : Request) → ¬ Asks found request

-- The words are right, and name this command and these values of its arguments, or none if there is no command.
pub record AreRight (words : List Text) (named : Option (Text × List Row)) : Type 0 where
  pub app : App
  pub ours : IsGrammar app
  pub right : fault_of app words ≡ []
  pub met : named ≡ subcommand_of app words

-- The arguments are right, and ask for this.
pub record AskFor (words : List Text) (request : Request) : Type 0 where
  pub app : App
  pub ours : IsGrammar app
  pub right : fault_of app words ≡ []
  pub found : Text × List Row
  pub met : subcommand_of app words ≡ Some found
  pub asked : Asks found request

-- The words are refused with a kind of error, or answered with help or the version; they are in conflict too if clap
-- passes them and they ask for nothing that there is, as words that name uploads in both ways, a folder of sequences and no
-- list, or two changes of owners.
pub record AreAnswered (words : List Text) (kind : ErrorKind) : Type 0 where
  pub app : App
  pub ours : IsGrammar app
  pub why : IsAmong kind (fault_of app words) ⊎ ((kind ≡ ArgumentConflict) × AsksNothing (subcommand_of app words))

-- the arguments ask for help or for the version
abbrev pub AskForHelp : List Text → Type 0
AskForHelp words = (kind : ErrorKind) × IsAskedFor kind × AreAnswered words kind

-- the arguments are a mistake
abbrev pub AreWrong : List Text → Type 0
AreWrong words = (kind : ErrorKind) × ¬ IsAskedFor kind × AreAnswered words kind
