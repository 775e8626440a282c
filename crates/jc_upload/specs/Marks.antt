-- The points behind a source's entries at which answers may put its sender. (own)
use Rattle.std.specs.Prelude.{ℕ, ◌≡◌, ◌<◌, ◌≤◌, ◌^◌, List, IfSome, length}
use Rattle.std.specs.Option.{IsSome}
use Rattle.std.specs.List.{All}
use Rattle.std.specs.Ordering.{nat_cmp}
use Rattle.std.specs.BTreeMap.{get}
use Rattle.jc_base.specs.LogEntry.{LogEntry}
use Rattle.jc_upload.specs.declared.answer.Answer.{Answer}
use Rattle.jc_upload.specs.declared.marks.Marks.{Marks}
use Rattle.jc_upload.specs.Upload.{acked_to, point_behind}

-- a position whose point is asked for
abbrev pub IsAsked : Marks → ℕ → Type 0
IsAsked marks n = IsSome (get nat_cmp marks.points n)

-- A position is asked for, and each that an answer counts up to.
pub record AsksFor (position : ℕ) (answers : List Answer) (marks : Marks) : Type 0 where
  pub point : IsAsked marks position
  pub ends : All (λ answer. acked_to answer < 2 ^ 64 → IsAsked marks (acked_to answer)) answers

-- The entries were counted, and of each position among them that is asked for the point is there.
pub record IsMarked (entries : List LogEntry) (marks : Marks) : Type 0 where
  pub counted : marks.count ≡ length entries
  pub points : (n : ℕ) → n ≤ length entries → IfSome (get nat_cmp marks.points n) (λ point. point ≡ point_behind entries n)
