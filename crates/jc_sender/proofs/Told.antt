-- What is so of the bytes of a source, or of some where they aren't known.
use Rattle.std.proofs.Common.{◌≡◌, ◌+◌, ℕ, List, Option, Some, None, Result, Ok, Err, option_map, refl, subst, take}
use Rattle.std.specs.Prelude.{IfErr, IfOk, IfSome}
use Rattle.jc_base.specs.declared.fault.Fault.{Fault}
use Rattle.jc_command_args.specs.declared.request.InputKind.{InputKind}
use Rattle.jc_command_args.specs.declared.request.InputKind.TheVariants.{File}
use Rattle.jc_command_shared.specs.declared.failure.Failure.{Failure}
use Rattle.jc_command_shared.specs.declared.failure.Failure.TheVariants as failures
use Rattle.jc_command_shared.specs.declared.status.Status.{Status}
use Rattle.jc_sender.specs.Source.{AreReadOf, HasFault, OfBytes, WhyNoEntries, most_file_bytes}
use Rattle.jc_sender.specs.Verdict.{PrintsReadingIn, PrintsReadingOf}

-- all that a stream gives
pub of_stream : (known : Option (List ℕ)) (Says : List ℕ → Type 0) → (bytes : List ℕ) × Says bytes
    → ((bytes : List ℕ) → known ≡ Some bytes → Says bytes) → OfBytes known Says
of_stream None Says some each = some
of_stream (Some bytes) Says some each = each bytes refl

-- ... and why nothing was
pub front_fails : {T : Type 0} (r : Result T Failure) (Says : Failure → Type 0) (held : Option (List ℕ)) (front : List ℕ)
    → IfSome held (λ bytes. front ≡ take (most_file_bytes + 1) bytes)
    → ((fault : Fault) → OfBytes (option_map (λ bytes. take (most_file_bytes + 1) bytes) held) (λ bytes. HasFault File bytes fault) → Says (failures.Bad fault))
    → Says failures.OutOfMemory → IfErr r (WhyNoEntries File front) → IfErr r Says
front_fails (Ok x) Says held front is bad memory why = tt
front_fails (Err failure) Says held front is bad memory why = by failure why
  where
    fault_in : (held : Option (List ℕ)) (fault : Fault) → IfSome held (λ bytes. front ≡ take (most_file_bytes + 1) bytes) → HasFault File front fault
        → OfBytes (option_map (λ bytes. take (most_file_bytes + 1) bytes) held) (λ bytes. HasFault File bytes fault)
    fault_in None fault is has = (front, has)
    fault_in (Some bytes) fault is has = subst (λ (b : List ℕ). HasFault File b fault) is has

    by : (failure : Failure) → WhyNoEntries File front failure → Says failure
    by (failures.Bad fault) why = bad fault (fault_in held fault is why)
    by failures.OutOfMemory why = memory
    by _ why = absurd why

pub of_other : (known : Option (List ℕ)) (First Other : List ℕ → Type 0) → ((bytes : List ℕ) → First bytes → Other bytes) → OfBytes known First → OfBytes known Other
of_other None First Other each (bytes, is) = (bytes, each bytes is)
of_other (Some bytes) First Other each is = each bytes is

-- the line of what is read of a file
pub of_read : {E : Type 0} (kind : InputKind) (r : Result Status E) (held bytes : List ℕ) (old new : Option (List ℕ)) → AreReadOf kind held bytes
    → IfOk r (λ status. PrintsReadingOf kind bytes status old new) → IfOk r (λ status. PrintsReadingIn kind held status old new)
of_read kind (Ok status) held bytes old new are prints = (bytes, are, prints)
of_read kind (Err e) held bytes old new are prints = tt
