-- The line of what an upload says.
use Rattle.std.proofs.Common.{ℕ, List, Option}
use Rattle.std.specs.Prelude.{IfOk, Result}
use Rattle.std.proofs.lemmas.Result.{IfOk-weaker}
use Rattle.jc_base.specs.LimitBounds.{AreDefaults}
use Rattle.jc_base.specs.declared.limits.Limits.{Limits}
use Rattle.jc_collect.specs.Inspected.{HasFormatCode, IsInspected}
use Rattle.jc_collect.specs.declared.bounds.Bounds.{Bounds}
use Rattle.jc_collect.specs.declared.inspect.Inspected.{Inspected}
use Rattle.jc_collector.specs.Inspected.{PrintsInspected, PrintsSomeInspected, PrintsInspectedOf}
use Rattle.jc_command_shared.specs.declared.failure.Failure.{Failure}
use Rattle.jc_command_shared.specs.declared.status.Status.{Status}

pub some_printed : (inspected : Inspected) (r : Result Status Failure) (old new : Option (List ℕ)) → HasFormatCode inspected
    → IfOk r (λ status. PrintsInspected inspected status old new) → IfOk r (λ status. PrintsSomeInspected status old new)
some_printed inspected r old new format printed =
    IfOk-weaker r _ _ (λ status prints. record { inspected = inspected; format = format; printed = prints }) printed

pub upload_printed : (bounds : Bounds) (upload : List ℕ) (limits : Limits) (inspected : Inspected) (r : Result Status Failure) (old new : Option (List ℕ))
    → AreDefaults limits.name limits.value limits.fields limits.entry limits.file → IsInspected limits bounds upload inspected
    → IfOk r (λ status. PrintsInspected inspected status old new) → IfOk r (λ status. PrintsInspectedOf bounds upload status old new)
upload_printed bounds upload limits inspected r old new defaults says printed =
    IfOk-weaker r _ _ (λ status prints. record {
      limits = limits;
      defaults = defaults;
      inspected = inspected;
      says = says;
      printed = prints;
    }) printed
