-- Ids that are compared with those before them.
use Rattle.std.proofs.Common.{◌≡◌, ◌↔◌, ℕ, ◌+◌, ◌<◌, ◌≤◌, Bool, true, false, IsTrue, List, Some, length, get_or, take, sym, ap, subst, ◌∙◌, ⊎_elim, arith}
use Rattle.std.specs.Cmp.Lexicographic.{bytes_decides, pointwise}
use Rattle.std.specs.Prelude.{nat_eq}
use Rattle.std.specs.List.{slice_get, Contains}
use Rattle.std.proofs.lemmas.Bool.{cases_eq, cases_lt}
use Rattle.std.proofs.lemmas.List.{get_or-take, length-take}
use Rattle.std.proofs.lemmas.Option.{slice_get-get_or, slice_get_within, get_or_from_slice_get}
use Rattle.jc_base.specs.declared.id.Id128.{Id128}
use Rattle.jc_world.specs.State.{AreDistinct}

-- None of the first ids stands before itself.
abbrev pub AreNewBelow : List Id128 → ℕ → Type 0
AreNewBelow ids n = (k : ℕ) (id : Id128) → k < n → slice_get ids k ≡ Some id → ¬ Contains (take k ids) id

before : (ids : List Id128) (i j : ℕ) (id : Id128) → i < j → slice_get ids i ≡ Some id → slice_get ids j ≡ Some id → Contains (take j ids) id
before ids i j id below at_i at_j =
    let within : i < length (take j ids) = omega (arith, below, length-take j ids, slice_get_within ids i id at_i) in
    (i, within, get_or-take j ids i id below ∙ get_or_from_slice_get ids i id id at_i)

pub distinct_from : (ids : List Id128) → AreNewBelow ids (length ids) → AreDistinct ids
distinct_from ids new i j id at_i at_j = ⊎_elim
    (λ (low : i < j). absurd (new j id (slice_get_within ids j id at_j) at_j (before ids i j id low at_i at_j)))
    (λ (high : j ≤ i). ⊎_elim
    (λ (same : i ≡ j). same)
    (λ (n : i ≡ j → ⊥). absurd (new i id (slice_get_within ids i id at_i) at_i (before ids j i id (omega (arith, high, n)) at_j at_i)))
    (cases_eq i j))
    (cases_lt i j)

pub not_distinct : (ids : List Id128) (j : ℕ) (id : Id128) → slice_get ids j ≡ Some id → Contains (take j ids) id → ¬ AreDistinct ids
not_distinct ids j id at_j c distinct =
    let low : c.0 < j = omega (arith, c.1, length-take j ids) in
    let lt : c.0 < length ids = omega (arith, low, slice_get_within ids j id at_j) in
    let at : slice_get ids c.0 ≡ Some id = slice_get-get_or ids c.0 id lt ∙ ap (λ (x : Id128). Some x) (sym (get_or-take j ids c.0 id low) ∙ c.2) in
    let same : c.0 ≡ j = distinct c.0 j id at at_j in
    omega (arith, low, same)

-- ---- looking an id up among others

same_id : (a b : Id128) → pointwise nat_eq a.0 b.0 ≡ true → a ≡ b
same_id a b h =
    let id : List ℕ → Id128 = λ bytes. record { 0 = bytes } in
    ap id ((bytes_decides a.0 b.0).0 h)

found : (ids : List Id128) (id : Id128) → ((k : ℕ) × (k < length ids) × ((d : Id128) → pointwise nat_eq (get_or ids k d).0 id.0 ≡ true)) → Contains ids id
found ids id h = (h.0, h.1, same_id (get_or ids h.0 id) id (h.2 id))

not_both : (b : Bool) → b ≡ false → b ≡ true → ⊥
not_both b e f = cc

missing : (ids : List Id128) (id : Id128) → ((k : ℕ) (d : Id128) → 0 ≤ k → k < length ids → pointwise nat_eq (get_or ids k d).0 id.0 ≡ false) → ¬ Contains ids id
missing ids id none c =
    not_both (pointwise nat_eq (get_or ids c.0 id).0 id.0) (none c.0 id (omega arith) c.1)
    ((bytes_decides (get_or ids c.0 id).0 id.0).1 (ap (λ (x : Id128). x.0) c.2))

-- an id that stands before itself
pub id_found : (ids : List Id128) (n : ℕ) (d : Id128) → n < length ids
    → ((k : ℕ) × (k < length (take n ids)) × ((x : Id128) → pointwise nat_eq (get_or (take n ids) k x).0 (get_or ids n d).0 ≡ true))
    → IsTrue false ↔ AreDistinct ids
id_found ids n d within h = (
  λ t. absurd (no_truth t),
  λ distinct. absurd (not_distinct ids n (get_or ids n d) (slice_get-get_or ids n d within) (found (take n ids) (get_or ids n d) h) distinct),
)
  where
    no_truth : ¬ (IsTrue false)
    no_truth t = cc

-- one more that doesn't
pub new_more : (ids : List Id128) (n : ℕ) (d : Id128) → AreNewBelow ids n
    → ((k : ℕ) (x : Id128) → 0 ≤ k → k < length (take n ids) → pointwise nat_eq (get_or (take n ids) k x).0 (get_or ids n d).0 ≡ false)
    → AreNewBelow ids (n + 1)
new_more ids n d new none k id below at c = ⊎_elim
    (λ (low : k < n). new k id low at c)
    (λ (high : n ≤ k).
    let same : k ≡ n = omega (arith, below, high) in
    let is : id ≡ get_or ids n d = sym (get_or_from_slice_get ids k id d at) ∙ ap (λ (i : ℕ). get_or ids i d) same in
    missing (take n ids) (get_or ids n d) none
    (subst (λ (i : ℕ). Contains (take i ids) (get_or ids n d)) same (subst (Contains (take k ids)) is c)))
    (cases_lt k n)
