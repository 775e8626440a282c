-- What a buffer holds behind a writer's bytes.
use Rattle.std.proofs.Common.{◌≡◌, ◌∙◌, ℕ, ◌+◌, ◌≤◌, List, [], ◌++◌, Option, Some, None, length, take, drop, refl, sym, subst, ap, arith, take-append-drop}
use Rattle.std.specs.Io.KnownBytes.{Appends, Keeps, append_known}
use Rattle.std.proofs.KnownBytes.{append_known-grown, append_known-moved}
use Rattle.std.proofs.lemmas.List.{append-nil, drop-drop, drop_all, drop-append-le}
use Rattle.jc_command_shared.specs.Output.{LacksEnd}

behind_none : (known : Option (List ℕ)) → append_known known [] ≡ known
behind_none None = refl
behind_none (Some bytes) = ap (λ (l : List ℕ). Some l) (append-nil bytes)

pub nothing_held : (known : Option (List ℕ)) (passed : ℕ) (held : List ℕ) → length held ≤ passed → append_known known (drop passed held) ≡ known
nothing_held known passed held none =
    ap (λ (l : List ℕ). append_known known l) (drop_all passed held none) ∙ behind_none known

-- the writer took so many more of the bytes held
pub passed_on : (before now : Option (List ℕ)) (held : List ℕ) (passed count : ℕ) → Appends before now (take count (drop passed held))
    → Keeps (append_known before (drop passed held)) (append_known now (drop (passed + count) held))
passed_on before now held passed count out =
    let rest = drop passed held in
    let is : rest ≡ take count rest ++ drop (passed + count) held =
    sym (take-append-drop count rest) ∙ ap (λ (l : List ℕ). take count rest ++ l) (drop-drop count passed held) in
    append_known-moved before now (take count rest) (drop (passed + count) held) rest out is

-- ... and so all of them, and none is held any more
pub passed_all : (before now : Option (List ℕ)) (held new : List ℕ) (passed count : ℕ) → Appends before now (take count (drop passed held))
    → length held ≤ passed + count → new ≡ [] → Keeps (append_known before (drop passed held)) (append_known now (drop 0 new))
passed_all before now held new passed count out whole none =
    subst (λ (l : List ℕ). Keeps (append_known before (drop passed held)) (append_known now l))
    (drop_all (passed + count) held whole ∙ sym none) (passed_on before now held passed count out)

pub kept_whole : (before now : Option (List ℕ)) (passed : ℕ) (held : List ℕ) → Keeps before (append_known now (drop passed held))
    → held ≡ [] → Keeps before now
kept_whole before now passed held keeps none =
    let nothing : length held ≤ passed = (let e : length held ≡ 0 = ap (λ (l : List ℕ). length l) none in omega (arith, e)) in
    subst (λ (known : Option (List ℕ)). Keeps before known) (nothing_held now passed held nothing) keeps

-- the buffer holds more bytes behind the others
pub taken : (before known : Option (List ℕ)) (held more new : List ℕ) (passed : ℕ) → Keeps before (append_known known (drop passed held))
    → passed ≤ length held → new ≡ held ++ more → Appends before (append_known known (drop passed new)) more
taken before known held more new passed keeps within is =
    append_known-grown before known (drop passed held) (drop passed new) more keeps
    (ap (drop passed) is ∙ drop-append-le passed held more within)

pub lacks_held : (taken there : Option (List ℕ)) (held : List ℕ) → Keeps taken (append_known there held) → LacksEnd taken there
lacks_held taken there held keeps = (held, keeps)
