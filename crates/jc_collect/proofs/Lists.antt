-- Lists with one more element.
use Rattle.std.proofs.Common.{◌≡◌, ◌⊎◌, ℕ, suc, zero, ◌+◌, ◌<◌, List, [], ◌∷◌, ◌++◌, Option, Some, None, length, map, take, drop, set, get_or, refl, sym, ap, ◌∙◌, inl, inr, ⊎_elim, arith}
use Rattle.std.specs.List.{slice_get}
use Rattle.std.proofs.lemmas.List.{length-map}
use Rattle.std.specs.Option.{unwrap_or, is_some}
use Rattle.std.proofs.lemmas.Option.{slice_get_within}
use Rattle.std.proofs.Common.{true, false}

pub some_same : {X : Type 0} (x y : X) → Some x ≡ Some y → x ≡ y
some_same x y h = ap (λ o. unwrap_or o x) h

pub none_not_some : {X : Type 0} (x : X) → ¬ (None ≡ Some x)
none_not_some x h = true_not_false (sym (ap is_some h))
  where
    true_not_false : ¬ (true ≡ false)
    true_not_false e = cc

pub get_before : {X : Type 0} (xs : List X) (x : X) (i : ℕ) → i < length xs → slice_get (xs ++ x ∷ []) i ≡ slice_get xs i
get_before [] x i h = absurd (omega (arith, h))
get_before (y ∷ ys) x zero h = refl
get_before (y ∷ ys) x (suc i) h = get_before ys x i (omega (arith, h))

pub get_last : {X : Type 0} (xs : List X) (x : X) → slice_get (xs ++ x ∷ []) (length xs) ≡ Some x
get_last [] x = refl
get_last (y ∷ ys) x = get_last ys x

pub get_more : {X : Type 0} (xs : List X) (x : X) (i : ℕ) (y : X) → slice_get xs i ≡ Some y → slice_get (xs ++ x ∷ []) i ≡ Some y
get_more xs x i y h = get_before xs x i (slice_get_within xs i y h) ∙ h

pub get_back : {X : Type 0} (xs : List X) (x : X) (i : ℕ) (y : X) → i < length xs → slice_get (xs ++ x ∷ []) i ≡ Some y → slice_get xs i ≡ Some y
get_back xs x i y within h = sym (get_before xs x i within) ∙ h

-- an element of the longer list is one of the shorter, or the last
pub get_cases : {X : Type 0} (xs : List X) (x : X) (i : ℕ) (y : X) → slice_get (xs ++ x ∷ []) i ≡ Some y
    → ((i < length xs) × (slice_get xs i ≡ Some y)) ⊎ ((i ≡ length xs) × (x ≡ y))
get_cases [] x zero y h = inr (refl, some_same x y h)
get_cases [] x (suc i) y h = absurd (none_not_some y h)
get_cases (z ∷ zs) x zero y h = inl (omega arith, h)
get_cases (z ∷ zs) x (suc i) y h =
    ⊎_elim (λ w. inl (omega (arith, w.0), w.1)) (λ w. inr (ap (λ n. suc n) w.0, w.1)) (get_cases zs x i y h)

pub length_more : {X : Type 0} (xs : List X) (x : X) → length (xs ++ x ∷ []) ≡ length xs + 1
length_more [] x = refl
length_more (y ∷ ys) x = omega (arith, length_more ys x)

pub take_more : {X : Type 0} (xs : List X) (i : ℕ) (x : X) → slice_get xs i ≡ Some x → take (i + 1) xs ≡ take i xs ++ x ∷ []
take_more [] i x h = absurd (none_not_some x h)
take_more (y ∷ ys) zero x h = ap (λ z. z ∷ []) (some_same y x h)
take_more (y ∷ ys) (suc i) x h =
    let more : suc i + 1 ≡ suc (i + 1) = omega arith in
    ap (λ n. take n (y ∷ ys)) more ∙ ap (λ zs. y ∷ zs) (take_more ys i x h)

-- ---- one element written

pub get_set_other : {X : Type 0} (xs : List X) (i k : ℕ) (x : X) → i < k → slice_get (set xs i x) k ≡ slice_get xs k
get_set_other [] i k x h = refl
get_set_other (y ∷ ys) zero zero x h = absurd (omega (arith, h))
get_set_other (y ∷ ys) zero (suc k) x h = refl
get_set_other (y ∷ ys) (suc i) zero x h = refl
get_set_other (y ∷ ys) (suc i) (suc k) x h = get_set_other ys i k x (omega (arith, h))

pub index_set_other : {X Y : Type 0} (f : X → Y) (d : Y) (xs : List X) (i k : ℕ) (x : X) → k < i → get_or (map f (set xs i x)) k d ≡ get_or (map f xs) k d
index_set_other f d [] i k x h = refl
index_set_other f d (y ∷ ys) zero k x h = absurd (omega (arith, h))
index_set_other f d (y ∷ ys) (suc i) zero x h = refl
index_set_other f d (y ∷ ys) (suc i) (suc k) x h = index_set_other f d ys i k x (omega (arith, h))

pub index_set : {X Y : Type 0} (f : X → Y) (d : Y) (xs : List X) (i : ℕ) (x : X) → i < length xs → get_or (map f (set xs i x)) i d ≡ f x
index_set f d [] i x h = absurd (omega (arith, h))
index_set f d (y ∷ ys) zero x h = refl
index_set f d (y ∷ ys) (suc i) x h = index_set f d ys i x (omega (arith, h))

pub index_map : {X Y : Type 0} (f : X → Y) (d : Y) (xs : List X) (i : ℕ) (x : X) → slice_get xs i ≡ Some x → get_or (map f xs) i d ≡ f x
index_map f d [] i x h = absurd (none_not_some x h)
index_map f d (y ∷ ys) zero x h = ap f (some_same y x h)
index_map f d (y ∷ ys) (suc i) x h = index_map f d ys i x h

-- what is known of a list in order is known of each of its elements
pub known_at : {X Y : Type 0} (known_of : X → Option Y) (xs : List X) (ys : List Y) (i : ℕ) (x : X) → map known_of xs ≡ map (λ y. Some y) ys → slice_get xs i ≡ Some x
    → (y : Y) × (slice_get ys i ≡ Some y) × (known_of x ≡ Some y)
known_at known_of [] ys i x same h = absurd (none_not_some x h)
known_at known_of (z ∷ zs) [] i x same h = absurd (cons_not_nil same)
  where
    cons_not_nil : {X : Type 0} {x : X} {xs : List X} → ¬ (x ∷ xs ≡ [])
    cons_not_nil e = absurd (none_not_some _ (sym (ap (λ l. slice_get l 0) e)))
known_at known_of (z ∷ zs) (y ∷ ys) zero x same h =
    (y, refl, ap known_of (sym (some_same z x h)) ∙ some_same (known_of z) (Some y) (ap (λ l. slice_get l 0) same))
known_at known_of (z ∷ zs) (y ∷ ys) (suc i) x same h = known_at known_of zs ys i x (ap (λ l. drop 1 l) same) h

pub same_length : {X Y : Type 0} (known_of : X → Option Y) (xs : List X) (ys : List Y) → map known_of xs ≡ map (λ y. Some y) ys → length xs ≡ length ys
same_length known_of xs ys same = sym (length-map xs known_of) ∙ ap (λ l. length l) same ∙ length-map ys (λ y. Some y)
