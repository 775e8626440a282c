-- Deliveries one after the other, each over what the one before left. (own)
use Rattle.std.specs.Prelude.{ℕ, zero, suc, ◌≤◌, Bool, true, false, List, [], ◌∷◌, length, map, ⊤}
use Rattle.jc_base.specs.declared.limits.Limits.{Limits}
use Rattle.jc_base.specs.Journal.{Journal}
use Rattle.jc_base.specs.LogEntry.{LogEntry}
use Rattle.jc_keeper.specs.Agree.{IsStored}
use Rattle.jc_upload.specs.declared.answer.Answer.{Answer}
use Rattle.jc_upload.specs.declared.answer.Answer.TheVariants.{Ack, No}
use Rattle.jc_collect.specs.Accepted.{AreAccepted, IsStoredBefore}
use Rattle.jc_collect.specs.Answer.{is_set_aside}
use Rattle.jc_collect.specs.Position.{IsPosition}

-- An upload that was delivered: what was answered, and what is stored afterwards.
pub record Turn : Type 0 where
  pub upload : List ℕ
  pub answer : Answer
  pub after : Journal

-- Each is a position over what the one before left.
abbrev pub IsChain : Limits → (start : Journal) → List Turn → Type 0
IsChain limits start [] = ⊤
IsChain limits start (turn ∷ turns) =
    IsPosition limits turn.upload start turn.answer turn.after × IsChain limits turn.after turns

-- what is stored before a position; at the number of turns, what is stored after the last
abbrev pub journal_before : (start : Journal) → List Turn → ℕ → Journal
journal_before start [] i = start
journal_before start (turn ∷ turns) zero = start
journal_before start (turn ∷ turns) (suc i) = journal_before turn.after turns i

abbrev pub uploads_of : List Turn → List (List ℕ)
uploads_of turns = map (λ turn. turn.upload) turns

-- the positions at which an upload was set aside
abbrev pub aside_of : List Turn → List Bool
aside_of turns = map (λ turn. is_set_aside turn.answer) turns

abbrev pub is_acknowledged : Answer → Bool
is_acknowledged (Ack source start count new left) = true
is_acknowledged (No of code place) = false

-- the positions at which an upload was acknowledged
abbrev pub acknowledged_of : List Turn → List Bool
acknowledged_of turns = map (λ turn. is_acknowledged turn.answer) turns

-- The acknowledged uploads are the accepted ones, and what is stored before each position is by them.
pub record AreTaken (limits : Limits) (start : Journal) (turns : List Turn) : Type 0 where
  pub accepted : AreAccepted limits start (uploads_of turns) (aside_of turns) (acknowledged_of turns)
  pub stored : (i : ℕ) → i ≤ length turns
      → IsStoredBefore limits start (uploads_of turns) (acknowledged_of turns) i (journal_before start turns i)
  -- what is stored stays
  pub kept : (i j : ℕ) → i ≤ j → j ≤ length turns
      → (e : LogEntry) → IsStored (journal_before start turns i) e → IsStored (journal_before start turns j) e
