-- Lists with one element written, or with more after them.
use Rattle.std.proofs.Common.{◌≡◌, ◌⊎◌, ℕ, suc, zero, ◌+◌, ◌-◌, ◌<◌, ◌≤◌, List, [], ◌∷◌, ◌++◌, Some, length, get_or, map, set, take, drop, refl, sym, ap, subst, ◌∙◌, inl, inr, ⊎_elim, arith}
use Rattle.std.specs.List.{slice_get, All, Contains}
use Rattle.std.specs.Option.{option_map}
use Rattle.std.proofs.lemmas.Bool.{cases_eq, cases_lt}
use Rattle.std.proofs.lemmas.List.{length-set, get_or-set_same, get_or-set_other, take-append-le, drop-append-le, take_at, get_or-take, get_or-drop, length-take, length-drop}
use Rattle.std.proofs.lemmas.List.Elements.{All-contains, All-contains_itself, All-set, All-weaker}
use Rattle.std.proofs.lemmas.Option.{slice_get_within, slice_get-get_or, slice_get-map, get_or_from_slice_get}

pub get_left : {X : Type 0} (xs ys : List X) (i : ℕ) → i < length xs → slice_get (xs ++ ys) i ≡ slice_get xs i
get_left [] ys i h = absurd (omega (arith, h))
get_left (x ∷ xs) ys zero h = refl
get_left (x ∷ xs) ys (suc i) h = get_left xs ys i (omega (arith, h))

pub contains_get : {X : Type 0} (xs : List X) (i : ℕ) (x : X) → slice_get xs i ≡ Some x → Contains xs x
contains_get xs i x h = (i, slice_get_within xs i x h, get_or_from_slice_get xs i x x h)

pub get_contained : {X : Type 0} (xs : List X) (x : X) (c : Contains xs x) → slice_get xs c.0 ≡ Some x
get_contained xs x c = slice_get-get_or xs c.0 x c.1 ∙ ap (λ y. Some y) c.2

pub all_get : {X : Type 0} (P : X → Type 0) (xs : List X) (i : ℕ) (x : X) → All P xs → slice_get xs i ≡ Some x → P x
all_get P xs i x all h = All-contains P xs x all (contains_get xs i x h)

pub contains_map : {X Y : Type 0} (f : X → Y) (xs : List X) (x : X) → Contains xs x → Contains (map f xs) (f x)
contains_map f xs x c = contains_get (map f xs) c.0 (f x) (slice_get-map f xs c.0 ∙ ap (option_map f) (get_contained xs x c))

-- ---- one element written

pub contains_set : {X : Type 0} (xs : List X) (i : ℕ) (y x : X) → Contains (set xs i y) x → Contains xs x ⊎ (y ≡ x)
contains_set {X} xs i y x h =
    let P : X → Type 0 = λ z. Contains xs z ⊎ (y ≡ z) in
    All-contains P (set xs i y) x
    (All-set P xs i y (inr refl) (All-weaker (Contains xs) P (λ z c. inl c) xs (All-contains_itself xs)))
    h

pub contains_kept : {X : Type 0} (xs : List X) (i : ℕ) (y z x : X) → slice_get xs i ≡ Some z → Contains xs x → Contains (set xs i y) x ⊎ (z ≡ x)
contains_kept xs i y z x at h = ⊎_elim
    (λ (e : h.0 ≡ i). inr (sym (get_or_from_slice_get xs i z x at) ∙ ap (λ n. get_or xs n x) (sym e) ∙ h.2))
    (λ n. inl (h.0, subst (λ k. h.0 < k) (sym (length-set xs i y)) h.1, get_or-set_other xs i h.0 y x n ∙ h.2))
    (cases_eq h.0 i)

pub contains_written : {X : Type 0} (xs : List X) (i : ℕ) (y z : X) → slice_get xs i ≡ Some z → Contains (set xs i y) y
contains_written xs i y z at =
    let within : i < length xs = slice_get_within xs i z at in
    (i, subst (λ k. i < k) (sym (length-set xs i y)) within, get_or-set_same xs i y y within)

-- what is said of the elements stays, if the one that is written is said to be the same
pub map_written : {X Y : Type 0} (f : X → Y) (xs : List X) (i : ℕ) (y z : X) → slice_get xs i ≡ Some z → f y ≡ f z → map f (set xs i y) ≡ map f xs
map_written f [] i y z at same = refl
map_written f (x ∷ xs) zero y z at same = ap (λ b. b ∷ map f xs) (same ∙ ap f (sym (get_or_from_slice_get (x ∷ xs) 0 z x at)))
map_written f (x ∷ xs) (suc i) y z at same = ap (λ l. f x ∷ l) (map_written f xs i y z at same)

-- ---- parts

-- the first ones of the rest of a list
pub take_rest_front : {X : Type 0} (xs front more : List X) (start n : ℕ) → drop start xs ≡ front ++ more → n ≡ length front → take n (drop start xs) ≡ front
take_rest_front xs front more start n e size = ap (take n) e ∙ take_at front more n (sym size)

pub part_more : {X : Type 0} (xs more : List X) (start count : ℕ) → start + count ≤ length xs → take count (drop start (xs ++ more)) ≡ take count (drop start xs)
part_more xs more start count h =
    ap (take count) (drop-append-le start xs more (omega (arith, h)))
    ∙ take-append-le count (drop start xs) more (rest xs start count h)
  where
    rest : {X : Type 0} (xs : List X) (start count : ℕ) → start + count ≤ length xs → count ≤ length (drop start xs)
    rest xs zero count h = omega (arith, h)
    rest [] (suc start) count h = absurd (omega (arith, h))
    rest (x ∷ xs) (suc start) count h = rest xs start count (omega (arith, h))

-- all of the first ones, from what holds of the first of these and of a part that begins among them
pub all_further : {X : Type 0} (P : X → Type 0) (xs : List X) (position start count : ℕ) → start ≤ position → start + count ≤ length xs
    → All P (take position xs) → All P (take count (drop start xs)) → All P (take (start + count) xs)
all_further P xs position start count begun within before part k d lt = ⊎_elim
    (λ (low : k < start).
    subst P (get_or-take position xs k d (omega (arith, low, begun)) ∙ sym (get_or-take (start + count) xs k d (omega (arith, low))))
    (before k d (subst (λ n. k < n) (sym (length-take position xs)) (omega (arith, low, begun, within)))))
    (λ (high : start ≤ k).
    let at : start + (k - start) ≡ k = omega (arith, high) in
    let short : k < start + count = omega (arith, lt, length-take (start + count) xs) in
    subst P
    (get_or-take count (drop start xs) (k - start) d (omega (arith, high, short))
    ∙ get_or-drop start xs (k - start) d ∙ ap (λ n. get_or xs n d) at ∙ sym (get_or-take (start + count) xs k d short))
    (part (k - start) d (subst (λ n. k - start < n) (sym (length-take count (drop start xs))) (omega (arith, high, short, within, length-drop start xs)))))
    (cases_lt k start)
