-- What is printed of the lines of a text, by the name of the list that has it.
use Rattle.std.proofs.Common.{ℕ, List, Option}
use Rattle.jc_command_shared.specs.declared.status.Status.{Status}
use Rattle.jc_collector_answers.specs.Named.{PrintsNamed}
use Rattle.jc_collector.specs.FromList.{PrintsFromList}
use Rattle.jc_collector.specs.OverFiles.{IsListed}

pub printed_listed : (told : List ℕ → Option (List ℕ)) (list : List ℕ) (given text : Option (List ℕ)) (status : Status) (old new : Option (List ℕ))
    → IsListed told list given text → PrintsNamed text status old new → PrintsFromList told list given status old new
printed_listed told list given text status old new listed printed = record { text = text; listed = listed; printed = printed }
