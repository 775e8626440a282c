-- What the words are found to be, and what that asks for.
use Rattle.std.proofs.Common.{map, string_bytes}
use Rattle.clap.specs.Words.{subcommand_rows_of}
use Rattle.jc_command_args.proofs.Outcomes.{asked, nothing}
use Rattle.jc_command_args.proofs.words.parse.Goals as goal

pub returns-in-Ok-clause-request : goal.returns-in-Ok-clause-request
returns-in-Ok-clause-request c =
    asked (map string_bytes c.args.words.now) (subcommand_rows_of c.in-Ok.matches) c.meant.result c.in-Ok.ensures.right
    c.meant.ensures.request

pub returns-in-Ok-clause-answer : goal.returns-in-Ok-clause-answer
returns-in-Ok-clause-answer c =
    nothing (map string_bytes c.args.words.now) (subcommand_rows_of c.in-Ok.matches) c.meant.result c.in-Ok.ensures.right
    c.meant.ensures.answer
