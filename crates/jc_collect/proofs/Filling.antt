-- Bytes that are filled piece by piece.
use Rattle.std.proofs.Common.{◌≡◌, ◌<◌, ◌≤◌, ◌+◌, ℕ, List, [], ◌++◌, length, take, Option, Some, None, sym, ap, ◌∙◌, subst, append-nil, arith}
use Rattle.std.proofs.lemmas.List.{take-append-le, length-take-le}
use Rattle.std.proofs.Math.Seq.{take-append-add}
use Rattle.std.proofs.KnownBytes.{Consumes-trans}
use Rattle.std.specs.Io.KnownBytes.{Consumes, Keeps}
use Rattle.jc_collect.specs.Position.{HasGivenFewer}
use borrow.Rule.Slice.PartMut.{put_mid, post_of}

filled : (a k n : ℕ) (xs ys : List ℕ) → a ≤ length xs → n ≤ length ys → take (a + n) (put_mid a k xs ys) ≡ take a xs ++ take n ys
filled a k n xs ys h w =
    ap (λ m. take (m + n) (put_mid a k xs ys)) (sym (length-take-le a xs h))
    ∙ take-append-add (take a xs) (ys ++ post_of a k xs) n
    ∙ ap (λ l. take a xs ++ l) (take-append-le n ys (post_of a k xs) w)

-- what had come stands in the bytes, and behind it what came now
pub filled_more : (old mid new : Option (List ℕ)) (a k n : ℕ) (xs ys : List ℕ) → a ≤ length xs → n ≤ length ys
    → Consumes old mid (take a xs) → Consumes mid new (take n ys) → Consumes old new (take (a + n) (put_mid a k xs ys))
filled_more old mid new a k n xs ys h w had came =
    subst (Consumes old new) (sym (filled a k n xs ys h w)) (Consumes-trans old mid new (take a xs) (take n ys) had came)

-- ... and a failed read took nothing of what comes next
pub filled_few : (old mid new : Option (List ℕ)) (a most : ℕ) (xs : List ℕ) → a < most → a ≤ length xs
    → Consumes old mid (take a xs) → Keeps mid new → HasGivenFewer most old new
filled_few old mid new a most xs h within had stays = record {
  came = take a xs;
  front = subst (Consumes old new) (append-nil (take a xs)) (Consumes-trans old mid new (take a xs) [] had (nothing mid new stays));
  few = omega (arith, h, length-take-le a xs within);
}
  where
    nothing : (mid new : Option (List ℕ)) → Keeps mid new → Consumes mid new []
    nothing None new stays = tt
    nothing (Some xs) None stays = stays
    nothing (Some xs) (Some ys) stays = sym stays
