-- The program's commands and their arguments, in clap's own terms. (own)
use Rattle.std.specs.Prelude.{◌≡◌, ◌^◌, ◌-◌, ◌∷◌, [], IfOk, List, Some, true, false, codes, map}
use Rattle.clap.specs.Lexer.{usize_max}
use Rattle.clap.specs.Words.{App, Rule, Text, app_of, new_app, new_rule, rule_of, with_rule, with_subcommand}
use Rattle.clap.specs.declared.builder.action.ArgAction.TheVariants.{SetTrue}
use Rattle.clap.specs.declared.builder.arg.Arg.{Arg}
use Rattle.clap.specs.declared.builder.command.Command.{Command}
use Rattle.clap.specs.declared.builder.command.Command.TheViews.{out-Command}
use Rattle.clap.specs.Simple.{on_top}
use Rattle.clap.specs.declared.builder.value_parser.ValueParser.{ValueParser}
use Rattle.clap.specs.declared.builder.value_parser.ValueParser.TheVariants.{Names, Unsigned}
use Rattle.jc_command_args.specs.declared.making.Making.{Making}
use Rattle.jc_command_args.specs.declared.request.InputKind.{InputKind}
use Rattle.jc_command_args.specs.declared.request.InputKind.TheVariants.{Export, File}
use Rattle.jc_command_args.specs.declared.request.NotesTask.{NotesTask}
use Rattle.jc_command_args.specs.declared.request.NotesTask.TheVariants.{Has, ForgetAfter, Verify}
use Rattle.jc_command_args.specs.declared.request.Tables.{Tables}
use Rattle.jc_command_args.specs.declared.request.Tables.TheVariants.{ByKey, ByNumber}

-- ---- arguments

-- a value that has its place, and has to be given
abbrev pub place_rule : Text → Rule
place_rule name = record (new_rule name) { required = true }

-- UPLOAD.., any number of values, after those that have their place
abbrev pub uploads_rule : Rule
uploads_rule = record (new_rule (codes "UPLOAD")) {
  range = Some (record { start_inclusive = 0; end_inclusive = usize_max });
}

-- TASK, one of some names
abbrev pub task_rule : ValueParser → Rule
task_rule tasks = record (place_rule (codes "TASK")) { parser = Some tasks }

-- KIND, one of some names
abbrev pub kind_rule : ValueParser → Rule
kind_rule kinds = record (place_rule (codes "KIND")) { parser = Some kinds }

-- `--name VALUE`
abbrev pub option_rule : Text → Rule
option_rule name = record (new_rule name) { long = Some name; value_names = 1 }

-- ..., which has to be given
abbrev pub required_rule : Text → Rule
required_rule name = record (option_rule name) { required = true }

-- `--name N`, a number from 0 to 2^63 - 1
abbrev pub number_rule : Text → Rule
number_rule name = record (option_rule name) { parser = Some (Unsigned 0 (2 ^ 63 - 1)) }

-- `--tables N`, one of some names
abbrev pub tables_rule : ValueParser → Rule
tables_rule tables = record (option_rule (codes "tables")) { parser = Some tables }

-- `--name`, which is true where it is given
abbrev pub flag_rule : Text → Rule
flag_rule name = record (new_rule name) { long = Some name; action = Some SetTrue }

-- ---- commands

-- a command of this name over `DB`
abbrev pub database_grammar : Text → App
database_grammar name = with_rule (new_app name) (place_rule (codes "DB"))

-- `collect DB [--files-from FILE] [--sequences FOLDER] [--most-windows N] [--then-export FILE] [--tables N] [UPLOAD..]`
abbrev pub collect_grammar : ValueParser → App
collect_grammar tables =
    with_rule (with_rule (with_rule (with_rule (with_rule (with_rule (database_grammar (codes "collect")) uploads_rule) (option_rule (codes "files-from")))
    (option_rule (codes "sequences"))) (number_rule (codes "most-windows"))) (option_rule (codes "then-export"))) (tables_rule tables)

-- `check DB [--sequences FOLDER]`
abbrev pub check_grammar : App
check_grammar = with_rule (database_grammar (codes "check")) (option_rule (codes "sequences"))

-- `notes --sequences FOLDER TASK`
abbrev pub notes_grammar : ValueParser → App
notes_grammar tasks = with_rule (with_rule (new_app (codes "notes")) (required_rule (codes "sequences"))) (task_rule tasks)

-- `owners --sequences FOLDER [--rename OLD] [--release SEQUENCE] [NEW]`
abbrev pub owners_grammar : App
owners_grammar =
    with_rule (with_rule (with_rule (with_rule (new_app (codes "owners")) (required_rule (codes "sequences")))
    (option_rule (codes "rename"))) (option_rule (codes "release"))) (new_rule (codes "NEW"))

-- `show DB [--id HEX] [--from N] [--to N] [--field NAME]`
abbrev pub show_grammar : App
show_grammar =
    with_rule (with_rule (with_rule (with_rule (database_grammar (codes "show")) (option_rule (codes "id")))
    (number_rule (codes "from"))) (number_rule (codes "to"))) (option_rule (codes "field"))

-- `migrate DB [--tables N]`
abbrev pub migrate_grammar : ValueParser → App
migrate_grammar tables = with_rule (database_grammar (codes "migrate")) (tables_rule tables)

-- `verify KIND FILE`
abbrev pub verify_grammar : ValueParser → App
verify_grammar kinds = with_rule (with_rule (new_app (codes "verify")) (kind_rule kinds)) (place_rule (codes "FILE"))

-- `inspect FILE [--most-entries N] [--most-fields N] [--most-bytes N] [--most-windows N]`
abbrev pub inspect_grammar : App
inspect_grammar =
    with_rule (with_rule (with_rule (with_rule (with_rule (new_app (codes "inspect")) (place_rule (codes "FILE")))
    (number_rule (codes "most-entries"))) (number_rule (codes "most-fields"))) (number_rule (codes "most-bytes"))) (number_rule (codes "most-windows"))

-- `--source HEX --resume FILE KIND IN`
abbrev pub with_source : ValueParser → App → App
with_source kinds app =
    with_rule (with_rule (with_rule (with_rule app (required_rule (codes "source"))) (required_rule (codes "resume")))
    (kind_rule kinds)) (place_rule (codes "IN"))

-- `upload`, which has `--limit N`, `--bytes N` and `--whole` too
abbrev pub upload_grammar : ValueParser → App
upload_grammar kinds =
    with_rule (with_rule (with_rule (with_source kinds (new_app (codes "upload"))) (number_rule (codes "limit")))
    (number_rule (codes "bytes"))) (flag_rule (codes "whole"))

abbrev pub ack_grammar : ValueParser → App
ack_grammar kinds = with_source kinds (new_app (codes "ack"))

-- `acknowledged UPLOAD`
abbrev pub acknowledged_grammar : App
acknowledged_grammar = with_rule (new_app (codes "acknowledged")) (place_rule (codes "UPLOAD"))

-- ---- the program

-- The program has a version, and one of its commands has to be named.
abbrev pub top_grammar : App
top_grammar = on_top (λ s. record s { has_version = true; arg_required_else_help = true; subcommand_required = true })
    (new_app (codes "journal-collect"))

-- the commands over a database
abbrev pub databases_grammar : (collect migrate : ValueParser) → App
databases_grammar collect migrate =
    with_subcommand (with_subcommand (with_subcommand (with_subcommand (with_subcommand top_grammar (collect_grammar collect).top)
    (database_grammar (codes "export")).top) show_grammar.top) check_grammar.top)
    (migrate_grammar migrate).top

-- ... those over notes
abbrev pub collector_grammar : (collect migrate tasks : ValueParser) → App
collector_grammar collect migrate tasks =
    with_subcommand (with_subcommand (databases_grammar collect migrate) (notes_grammar tasks).top) owners_grammar.top

-- ... those over files, and `codes`
abbrev pub grammar : (collect migrate tasks verify upload ack : ValueParser) → App
grammar collect migrate tasks verify upload ack =
    with_subcommand (with_subcommand (with_subcommand (with_subcommand (with_subcommand (with_subcommand (collector_grammar collect migrate tasks)
    (verify_grammar verify).top) inspect_grammar.top) (upload_grammar upload).top) (ack_grammar ack).top) acknowledged_grammar.top) (new_app (codes "codes")).top

abbrev pub kind_name : InputKind → Text
kind_name Export = codes "export"
kind_name File = codes "file"

abbrev pub all_kinds : List Text
all_kinds = kind_name Export ∷ kind_name File ∷ []

-- the names of the tables by key, those of schema 2, and of the tables by number, those of schema 3
abbrev pub tables_name : Tables → Text
tables_name ByKey = codes "2"
tables_name ByNumber = codes "3"

abbrev pub all_tables : List Text
all_tables = tables_name ByKey ∷ tables_name ByNumber ∷ []

-- the names of what is done with notes
abbrev pub task_name : NotesTask → Text
task_name Has = codes "has"
task_name ForgetAfter = codes "forget-after"
task_name Verify = codes "verify"

abbrev pub all_tasks : List Text
all_tasks = task_name Has ∷ task_name ForgetAfter ∷ task_name Verify ∷ []

-- the texts that a parser of names takes
abbrev pub names_of : ValueParser → List Text
names_of (Names names) = map (λ name. name.now) names.now
names_of _ = []

-- a parser of the kinds' names
abbrev pub AreKinds : ValueParser → Type 0
AreKinds kinds = names_of kinds ≡ all_kinds

-- a parser of the tables' names
abbrev pub AreTables : ValueParser → Type 0
AreTables tables = names_of tables ≡ all_tables

-- a parser of the names of what is done with notes
abbrev pub AreTasks : ValueParser → Type 0
AreTasks tasks = names_of tasks ≡ all_tasks

-- The command has this grammar, and nothing that holds for other commands too.
pub record IsCommand (command : Command) (app : App) : Type 0 where
  pub shape : app_of command ≡ app
  pub local : (out-Command command).has_globals ≡ false

-- The command that is being made has this grammar, unless memory was refused.
abbrev pub Makes : Making → App → Type 0
Makes making app = IfOk making.command (λ command. IsCommand command.value app)

-- The argument has this rule, for its own command alone.
pub record IsRule (arg : Arg) (rule : Rule) : Type 0 where
  pub shape : rule_of arg ≡ rule
  pub local : arg.global ≡ false

-- the program's grammar, in which each kind goes by its name, and so do tables
pub record IsGrammar (app : App) : Type 0 where
  pub collect : ValueParser
  pub collect_tables : AreTables collect
  pub migrate : ValueParser
  pub migrate_tables : AreTables migrate
  pub tasks : ValueParser
  pub are_tasks : AreTasks tasks
  pub verify : ValueParser
  pub verify_kinds : AreKinds verify
  pub upload : ValueParser
  pub upload_kinds : AreKinds upload
  pub ack : ValueParser
  pub ack_kinds : AreKinds ack
  pub whole : app ≡ grammar collect migrate tasks verify upload ack
