-- The files are those that it was run with.
use Rattle.jc_command.specs.Failed.{FailsWithin}
use Rattle.jc_command.specs.Run.{EndsWithin}
use Rattle.jc_command.proofs.run.command.Goals as goal

pub returns-clause-ended : goal.returns-clause-ended
unfolding EndsWithin
returns-clause-ended g c = λ status other number.
    (c.run_command.result.files, c.run_command.result.ledger, c.run_command.ensures.ended status (λ failed. absurd (other failed)) number)

pub returns-clause-failed : goal.returns-clause-failed
unfolding FailsWithin
returns-clause-failed g c = λ status number.
    (c.run_command.result.files, c.run_command.result.ledger, c.run_command.result.left, c.run_command.result.folders, c.run_command.ensures.failed status number)
