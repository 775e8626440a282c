-- What is printed, and machines that aren't owners.
use Rattle.std.proofs.Common.{◌≡◌, ◌∙◌, ◌++◌, ℕ, Bool, true, false, not, List, [], Option, Some, None, ap, append-nil, append_assoc, subst, sym}
use Rattle.std.specs.Prelude.{◌≢◌}
use Rattle.std.specs.Io.KnownBytes.{Appends}
use Rattle.std.specs.Option.{option_eq}
use Rattle.jc_ledger.specs.declared.owner.MachineDigest.{MachineDigest}

-- a machine that was asked for and isn't the owner
pub not_same : (same : MachineDigest → MachineDigest → Bool) (owner : Option MachineDigest) (machine : MachineDigest)
    → true ≡ not (option_eq same owner (Some machine)) → same machine machine ≡ true → owner ≢ Some machine
not_same same owner machine asked itself is =
    let clash : true ≡ false =
    subst (λ (o : Option MachineDigest). true ≡ not (option_eq same o (Some machine))) is asked ∙ ap not itself in
    cc

pub nothing : (known : Option (List ℕ)) → Appends known known []
nothing None = tt
nothing (Some bytes) = sym (append-nil bytes)

pub appends_more : (a b c : Option (List ℕ)) (xs ys : List ℕ) → Appends a b xs → Appends b c ys → Appends a c (xs ++ ys)
appends_more None b c xs ys first then = tt
appends_more (Some x) None c xs ys first then = absurd first
appends_more (Some x) (Some y) None xs ys first then = absurd then
appends_more (Some x) (Some y) (Some z) xs ys first then =
    then ∙ ap (λ (bytes : List ℕ). bytes ++ ys) first ∙ append_assoc x xs ys
