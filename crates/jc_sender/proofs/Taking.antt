-- What answers do to a sender.
use Rattle.std.proofs.Common.{◌≡◌, ◌↔◌, ◌∙◌, ℕ, Bool, true, false, List, [], ◌∷◌, ap, ap₂, inl, inr, refl, sym, subst}
use Rattle.std.specs.Prelude.{IsTrue}
use Rattle.std.specs.Bool.{OnTrue, OnFalse}
use Rattle.jc_base.specs.LogEntry.{LogEntry}
use Rattle.jc_upload.specs.Resume.{Point}
use Rattle.jc_upload.specs.Upload.{Advances, Sender, TakesAnswer, TakesAnswers, acked_to, moved_to}
use Rattle.jc_upload.specs.declared.answer.Answer.{Answer}
use Rattle.jc_sender.specs.Sent.{sender_of}
use Rattle.jc_sender.specs.Source.{HasEntriesOf}
use Rattle.jc_sender.specs.Taken.{MovesSender}
use Rattle.jc_command_args.specs.declared.request.InputKind.{InputKind}

pub takes_of : (entries : List LogEntry) (answer : Answer) (before after : Sender) (moves : Bool)
    → IsTrue moves ↔ Advances before entries answer
    → OnTrue moves (after ≡ moved_to before entries (acked_to answer)) → OnFalse moves (after ≡ before)
    → TakesAnswer entries answer before after
takes_of entries answer before after true when moved same = inl (when.0 refl, moved)
takes_of entries answer before after false when moved same = inr (λ advances. let both = when.1 advances in cc, same)

-- an answer changes no sender's id
keeps_source : (entries : List LogEntry) (answer : Answer) (before after : Sender) → TakesAnswer entries answer before after
    → after.source ≡ before.source
keeps_source entries answer before after takes = elim takes [
  | inl moved ↦ ap (λ (s : Sender). s.source) moved.1
  | inr same ↦ ap (λ (s : Sender). s.source) same.1
]

all_keep_source : (entries : List LogEntry) (answers : List Answer) (before after : Sender)
    → TakesAnswers entries answers before after → after.source ≡ before.source
all_keep_source entries [] before after takes = ap (λ (s : Sender). s.source) takes
all_keep_source entries (answer ∷ answers) before after (middle, takes, rest) =
    all_keep_source entries answers middle after rest ∙ keeps_source entries answer before middle takes

-- so what the answers did is said by the resume point
pub sender_moved : (kind : InputKind) (bytes : List ℕ) (entries : List LogEntry) (answers : List Answer) (before after : Sender) (moved : Point)
    → HasEntriesOf kind bytes entries → TakesAnswers entries answers before after → moved ≡ after.point
    → MovesSender kind before bytes answers moved
sender_moved kind bytes entries answers before after moved has takes ends =
    let end : after ≡ sender_of before.source moved = ap₂ sender_of (all_keep_source entries answers before after takes) (sym ends) in
    record {
      reading = has.0;
      well = has.1;
      takes = subst (λ (es : List LogEntry). TakesAnswers es answers before (sender_of before.source moved)) has.2
          (subst (λ (s : Sender). TakesAnswers entries answers before s) end takes);
    }
