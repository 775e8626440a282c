-- The statuses that tell what answers say of an upload.
use Rattle.std.proofs.Common.{◌≡◌, ℕ, List, Option}
use Rattle.jc_command_shared.specs.declared.status.Status.TheVariants.{Success, Refused, Misused, Unanswered}
use Rattle.jc_sender.specs.Acknowledged.{Tells, TellsOfSome}
use Rattle.jc_sender.specs.declared.decided.Outcome.{Outcome}
use Rattle.jc_sender.specs.declared.decided.Outcome.TheVariants as outcomes

one_not_misused : (outcome : Outcome) (old new : Option (List ℕ)) → Tells outcome Misused old new → ⊥
one_not_misused outcomes.Acknowledged old new told = let same : Misused ≡ Success = told.0 in cc
one_not_misused (outcomes.Refused answer) old new told = let same : Misused ≡ Refused = told.0 in cc
one_not_misused outcomes.Unanswered old new told = let same : Misused ≡ Unanswered = told.0 in cc

-- The command line is none of what they say.
pub told_not_misused : (given old new : Option (List ℕ)) → TellsOfSome given Misused old new → ⊥
told_not_misused given old new some = one_not_misused some.1.tells.outcome old new some.1.tells.told
