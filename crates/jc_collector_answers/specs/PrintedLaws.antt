-- What holds of the answers that were printed, by what else does. (own)
use Rattle.std.proofs.Common.{ℕ, List, [], ◌++◌, Option, Result, Ok, Err, arith}
use Rattle.std.proofs.KnownBytes.{Appends-nil}
use Rattle.jc_collector_answers.specs.Kept.{HoldsPrinted, Printing}
use Rattle.jc_collector_answers.specs.Tied.{NamedWith, PrintsFront, PrintsWith}
use Rattle.jc_command_shared.specs.declared.status.Status.{Status}
use Rattle.jc_upload.specs.declared.answer.Answer.{Answer}

-- so many whole answers, and one for each line of a text
abbrev pub many : ℕ → Printing
many count Holds = PrintsWith Holds count

abbrev pub named : (text : Option (List ℕ)) → Printing
named text Holds = NamedWith Holds text

-- nothing was printed
pub front_none : (Holds : List Answer → Type 0) (known : Option (List ℕ)) → Holds [] → PrintsFront Holds known known
front_none Holds known none = record { answers = []; more = []; few = omega arith; bytes = 0; printed = Appends-nil known; holds = none }

-- what holds of answers holds of others too
module _ (First Other : List Answer → Type 0) (each : (answers : List Answer) → First answers → Other answers) where
  pub with_other : (count : ℕ) (status : Status) (old new : Option (List ℕ)) → PrintsWith First count status old new → PrintsWith Other count status old new
  with_other count status old new prints = record { shown = prints.shown; holds = each prints.shown.answers prints.holds }

  pub named_other : (text : Option (List ℕ)) (status : Status) (old new : Option (List ℕ)) → NamedWith First text status old new → NamedWith Other text status old new
  named_other text status old new prints = record { shown = prints.shown; holds = each prints.shown.printed.answers prints.holds }

  pub front_other : (old new : Option (List ℕ)) → PrintsFront First old new → PrintsFront Other old new
  front_other old new prints = record {
    answers = prints.answers;
    more = prints.more;
    few = prints.few;
    bytes = prints.bytes;
    printed = prints.printed;
    holds = each (prints.answers ++ prints.more) prints.holds;
  }

  pub many_other : {F : Type 0} (count : ℕ) (result : Result Status F) (old new : Option (List ℕ))
      → HoldsPrinted (many count) First result old new → HoldsPrinted (many count) Other result old new
  many_other count (Ok status) old new prints = with_other count status old new prints
  many_other count (Err failure) old new prints = front_other old new prints

  pub text_other : {F : Type 0} (text : Option (List ℕ)) (result : Result Status F) (old new : Option (List ℕ))
      → HoldsPrinted (named text) First result old new → HoldsPrinted (named text) Other result old new
  text_other text (Ok status) old new prints = named_other text status old new prints
  text_other text (Err failure) old new prints = front_other old new prints
