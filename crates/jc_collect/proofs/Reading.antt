-- What a read of a space gives, and what is left behind it.
use Rattle.std.proofs.Common.{◌≡◌, ◌≤◌, ◌+◌, ℕ, List, [], ◌++◌, length, take, drop, Option, Some, None, IsSome, refl, sym, ap, ◌∙◌, arith, take-append-drop, unwrap_or}
use Rattle.std.proofs.lemmas.List.{take_at, drop-drop, drop_all}
use Rattle.std.specs.Io.KnownBytes.{Consumes, IsAtEnd}
use Rattle.jc_collect.specs.Part.{known_from}

-- the next n bytes, and the others
pub cut : (n i : ℕ) (bytes : List ℕ) → drop i bytes ≡ take n (drop i bytes) ++ drop (i + n) bytes
cut n i bytes = sym (take-append-drop n (drop i bytes)) ∙ ap (λ r. take n (drop i bytes) ++ r) (drop-drop n i bytes)

pub reads_on : (known : Option (List ℕ)) (place count len : ℕ) (out rest : List ℕ) → length out ≡ count
    → ((b : List ℕ) → known ≡ Some b → length b ≡ len)
    → (IsSome known → out ≡ take (length out) (drop place (unwrap_or known [])))
    → Consumes (known_from place known) (known_from (place + count) known) (take count (out ++ rest))
reads_on None place count len out rest full whole read = tt
reads_on (Some b) place count len out rest full whole read =
    let same : take count (drop place b) ≡ take count (out ++ rest) =
    ap (λ n. take n (drop place b)) (sym full) ∙ sym (read refl) ∙ sym (take_at out rest count full) in
    cut count place b ∙ ap (λ front. front ++ drop (place + count) b) same

pub nothing_behind : (known : Option (List ℕ)) (place len : ℕ) → ((b : List ℕ) → known ≡ Some b → length b ≡ len) → len ≤ place → IsAtEnd (known_from place known)
nothing_behind None place len whole past = tt
nothing_behind (Some b) place len whole past = let all = whole b refl in drop_all place b (omega (arith, all, past))

pub from_start : (known : Option (List ℕ)) → known_from 0 known ≡ known
from_start None = refl
from_start (Some b) = refl
