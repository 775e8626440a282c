-- The part of a device's bytes from a place on. (own)
use Rattle.std.proofs.Common.{◌≡◌, ℕ, ◌+◌, ◌-◌, ◌<◌, ◌^◌, List, length, drop, Option, Some, None, refl, ap, length-drop, arith}
use Rattle.std.specs.Option.{option_map}

-- the known bytes from a place on
abbrev pub known_from : ℕ → Option (List ℕ) → Option (List ℕ)
known_from place known = option_map (drop place) known

some_is : {A : Type 0} (x y : A) → Some x ≡ Some y → x ≡ y
some_is x y h = cc

-- ---- what holds of the numbers of bytes

pub length_from : (place len size : ℕ) (known : Option (List ℕ)) → place + len ≡ size
    → ((b : List ℕ) → known ≡ Some b → length b ≡ size)
    → (b : List ℕ) → known_from place known ≡ Some b → length b ≡ len
length_from place len size None fits whole b h = absurd cc
length_from place len size (Some all) fits whole b h =
    let total : length all ≡ size = whole all refl in
    let dropped : length (drop place all) ≡ length all - place = length-drop place all in
    let same : length (drop place all) ≡ length b = ap length (some_is (drop place all) b h) in
    omega arith

pub small_rest : (len place : ℕ) → len < 2 ^ 64 → len - place < 2 ^ 64
small_rest len place h = omega arith
