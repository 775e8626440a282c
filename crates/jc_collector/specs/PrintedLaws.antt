-- What holds of the answers that were printed, by what came of them. (own)
use Rattle.std.specs.Prelude.{ℕ, List, Option, Result, Ok, Err, IfOk, IfErr}
use Rattle.jc_collector_answers.specs.Kept.{HoldsPrinted, Printing}
use Rattle.jc_collector_answers.specs.Tied.{PrintsFront}
use Rattle.jc_command_shared.specs.declared.failure.Failure.{Failure}
use Rattle.jc_command_shared.specs.declared.status.Status.{Status}
use Rattle.jc_upload.specs.declared.answer.Answer.{Answer}

module _ (Whole : Printing) (Holds : List Answer → Type 0) (old new : Option (List ℕ)) where
  pub whole : (result : Result Status Failure) → HoldsPrinted Whole Holds result old new → IfOk result (λ status. Whole Holds status old new)
  whole (Ok status) it = it
  whole (Err failure) it = tt

  pub front : (result : Result Status Failure) → HoldsPrinted Whole Holds result old new → IfErr result (λ _. PrintsFront Holds old new)
  front (Ok status) it = tt
  front (Err failure) it = it
