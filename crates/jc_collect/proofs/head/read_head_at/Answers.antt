use Rattle.std.proofs.Common.{◌≡◌, ℕ, [], length, take, unwrap_or, sym, ap, ◌∙◌, arith}
use Rattle.jc_collect.proofs.Heads.{space_come}
use Rattle.jc_collect.proofs.head.read_head_at.Goals as goal
use Rattle.jc_collect.proofs.head.read_head_at.Goals.{then-came-ge-HEAD_LENGTH+in_ok-read_at, else-came-ge-HEAD_LENGTH}

pub returns-clause-begins : goal.returns-clause-begins
returns-clause-begins g c =
    let known = g.B.ByteSpace.bytes c.args.space.now in
    c.head_in.ensures.begins known _
    (space_come c.if-came-ge-HEAD_LENGTH.bytes c.len-came.result known
    (λ b is. g.met.B.ByteSpace.whole c.args.space.now b is ∙ sym c.len-came.ensures)
    (elim c.if-came-ge-HEAD_LENGTH.branch [
      | then-came-ge-HEAD_LENGTH+in_ok-read_at w ↦ λ many is_known.
          let full : length w.read_at.new.out ≡ 48 = omega arith in
          w.bytes-is ∙ w.in_ok-read_at.ensures.read is_known ∙ ap (λ (n : ℕ). take n (unwrap_or known [])) full
      | else-came-ge-HEAD_LENGTH w ↦ λ many. absurd (omega (arith, w.if-came-ge-HEAD_LENGTH.false))
    ]))
