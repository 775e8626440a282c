-- What is printed when a command over notes fails.
use Rattle.std.proofs.Common.{◌≡◌, ap, inl, inr}
use Rattle.jc_command_shared.specs.Failure.{status_of}
use Rattle.jc_command_shared.specs.declared.failure.Failure.{Failure}
use Rattle.jc_command_shared.specs.declared.status.Status.TheVariants.{Failed}
use Rattle.jc_notes.specs.Failing.{WorkFails}

-- a device or memory failed
pub work_failed : (failure : Failure) → WorkFails failure → status_of failure ≡ Failed
work_failed failure (inl is) = ap status_of is
work_failed failure (inr (inl is)) = ap status_of is
work_failed failure (inr (inr is)) = ap status_of is
