-- What is passed next is masked.
use Rattle.std.proofs.Common.{◌+◌, ◌<◌, ◌++◌, ◌∷◌, [], ℕ, List, length, take, get_or, set, refl, rules, subst, sym}
use Rattle.std.proofs.lemmas.List.{take_more, take_more_set}
use Rattle.jc_render.specs.Terminal.{IsMasked, Masks}
use Rattle.jc_render.specs.declared.terminal.Ahead.{Ahead}
use Rattle.jc_render.proofs.terminal.Ahead.mask.Goals as goal

masks_more : (ahead behind : Ahead) (bytes shown : List ℕ) (byte one : ℕ) → Masks ahead bytes shown behind → IsMasked behind byte one
    → Masks ahead (bytes ++ byte ∷ []) (shown ++ one ∷ []) (record { first = behind.last; last = one })
masks_more ahead behind [] [] byte one same is =
    subst (λ (a : Ahead). Masks a (byte ∷ []) (one ∷ []) (record { first = behind.last; last = one })) (sym same) (is, refl)
masks_more ahead behind [] (_ ∷ _) byte one absent is = absurd absent
masks_more ahead behind (_ ∷ _) [] byte one absent is = absurd absent
masks_more ahead behind (b ∷ bytes) (s ∷ shown) byte one (here, there) is =
    (here, masks_more (record { first = ahead.last; last = s }) behind bytes shown byte one there is)

masks_next : (ahead behind : Ahead) (bytes piece : List ℕ) (at one : ℕ) → at < length bytes → at < length piece
    → Masks ahead (take at bytes) (take at piece) behind → IsMasked behind (get_or bytes at 0) one
    → Masks ahead (take (at + 1) bytes) (take (at + 1) (set piece at one)) (record { first = behind.last; last = one })
masks_next ahead behind bytes piece at one within room so_far is =
    rw (take_more bytes at 0 within) (rw (take_more_set piece at one room) (masks_more ahead behind (take at bytes) (take at piece) (get_or bytes at 0) one so_far is))

pub loop-at-preserved : goal.loop-at-preserved
loop-at-preserved c = masks_next c.args.self.now c.loop-at.self c.args.bytes.now c.loop-at.piece c.loop-at.at c.masked-shown.result
    (search rules) (search rules) c.loop-at.invariant c.masked-shown.ensures
