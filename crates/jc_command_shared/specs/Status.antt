-- The exit statuses. (own)
use Rattle.std.specs.Prelude.{ℕ}
use Rattle.jc_command_shared.specs.declared.status.Status.{Status}
use Rattle.jc_command_shared.specs.declared.status.Status.TheVariants.{Success, Refused, Misused, Failed, Unanswered}

abbrev pub number_of : Status → ℕ
number_of Success = 0
number_of Refused = 1
number_of Misused = 2
number_of Failed = 3
number_of Unanswered = 4
