use Rattle.std.proofs.Common.{◌≡◌, ◌<◌, ◌^◌, ℕ, take}
use Rattle.std.specs.Prelude.{IfSome}
use Rattle.std.specs.Option.{IsSome}
use Rattle.std.specs.List.{All}
use Rattle.std.specs.Ordering.{nat_cmp}
use Rattle.std.specs.BTreeMap.{get}
use Rattle.jc_upload.specs.Resume.{start}
use Rattle.jc_upload.specs.Upload.{acked_to}
use Rattle.jc_upload.proofs.marks.Marks.asked.Given as goal

-- the points are all that of the beginning, and those of the answers so far are there
abbrev pub invariant-loop-answer : goal.invariant-loop-answer
invariant-loop-answer l = record {
  none : (n : ℕ) → IfSome (get nat_cmp l.points n) (λ point. point ≡ start);
  point : IsSome (get nat_cmp l.points l.position);
  ends : All (λ answer. acked_to answer < 2 ^ 64 → IsSome (get nat_cmp l.points (acked_to answer))) (take l.answer-index l.answers);
}
