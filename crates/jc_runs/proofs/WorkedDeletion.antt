-- The upload of the worked list that its machine may delete.
use Rattle.std.proofs.Common.{◌≡◌, ◌⊎◌, ◌++◌, arith, ℕ, zero, suc, Bool, true, false, List, [], ◌∷◌, Some, None, get_or, refl, sym, ap, subst, inl, inr}
use Rattle.std.specs.List.{Contains}
use Rattle.std.proofs.lemmas.List.Elements.{Contains-push_cases}
use Rattle.std.proofs.lemmas.Option.{none-some, same_Some}
use Rattle.std.specs.Fmt.{digits}
use Rattle.hex.specs.Hex.{encode_with}
use Rattle.jc_base.specs.declared.id.Id128.{Id128}
use Rattle.jc_command_shared.specs.Lines.{lines_of}
use Rattle.jc_export.specs.Cut.{joined}
use Rattle.jc_upload.specs.Answer.{IsAnswer, answer_text}
use Rattle.jc_upload.specs.declared.answer.Answer.{Answer}
use Rattle.jc_upload.specs.declared.answer.Answer.TheVariants.{Ack, No}
use Rattle.jc_upload.specs.declared.head.UploadHead.{UploadHead}
use Rattle.jc_upload.specs.Head.{IsHead, head_text}
use Rattle.jc_runs.specs.Acknowledged.{AcknowledgeNoOther}
use Rattle.jc_runs.specs.Safe.{AcknowledgeAll, IsPrinted, MayDelete}
use Rattle.jc_runs.specs.Worked.{ack_of, acks, alone, numbered, of_lost, of_one, of_other, uncommitted, unread, upload_of, worked}
use Rattle.jc_runs.proofs.OneMore.{lawful_head, lawful_id, small_one}

-- no two headers begin one upload, and no two answers have one line
pub record OneEach : Type 0 where
  pub head : (a b : UploadHead) (x y : List ℕ) → IsHead a → IsHead b → head_text a ++ x ≡ head_text b ++ y → (a ≡ b) × (x ≡ y)
  pub answer : (a b : Answer) → IsAnswer a → IsAnswer b → answer_text a ≡ answer_text b → a ≡ b

abbrev line : List ℕ
line = answer_text (ack_of 1 1)

one_line : lines_of line ≡ line ∷ []
unfolding lines_of encode_with digits
one_line = refl

lawful_ack : IsAnswer (ack_of 1 1)
lawful_ack = record { source_is = lawful_id 1 small_one.byte; start_in = omega arith; count_in = omega arith; new_in = omega arith; left_in = omega arith }

there : Contains (lines_of line) line
there = subst (λ (ls : List (List ℕ)). Contains ls line) (sym one_line) (0, omega arith, refl)

acknowledge : AcknowledgeAll (upload_of 1 of_one) line
acknowledge = record {
  source = numbered 1;
  count = 1;
  new = 1;
  body = joined (of_one ∷ []);
  has = record { lawful = lawful_head 1 1 1 small_one; whole = refl };
  lawful = lawful_ack;
  line = there;
}

only_line : (l : List ℕ) → Contains (lines_of line) l → line ≡ l
only_line l inside = by_case (Contains-push_cases [] line l (subst (λ (ls : List (List ℕ)). Contains ls l) one_line inside))
  where
    by_case : Contains [] l ⊎ (line ≡ l) → line ≡ l
    by_case (inl none) = absurd (omega (arith, none.1))
    by_case (inr same) = same

was_printed : OneEach → (answer : Answer) → IsAnswer answer → Contains (lines_of line) (answer_text answer) → IsPrinted worked answer
was_printed one answer lawful inside =
    subst (λ (a : Answer). IsPrinted worked a) (one.answer (ack_of 1 1) answer lawful_ack lawful (only_line (answer_text answer) inside))
    (inl (0, omega arith, refl))

-- Of the uploads that came no other one is acknowledged so.
its_own : (new : ℕ) → AcknowledgeNoOther (numbered 1) 1 (upload_of 1 of_one) (alone 1 of_one) (acks 1 new)
its_own new zero more at known is = sym (same_Some (Some (upload_of 1 of_one)) known is)
its_own new (suc i) more at known is = absurd (none-some (Ack (numbered 1) 0 1 more 0) at)

source_in : Answer → Id128
source_in (Ack source start count new left) = source
source_in (No of code place) = numbered 1

of_another : AcknowledgeNoOther (numbered 1) 1 (upload_of 1 of_one) (alone 2 of_other) (acks 2 1)
unfolding source_in
of_another zero more at known is =
    let ids : numbered 2 ≡ numbered 1 = ap source_in (same_Some (ack_of 2 1) (Ack (numbered 1) 0 1 more 0) at) in
    let bytes : 2 ≡ 1 = ap (λ (id : Id128). get_or id.0 0 0) ids in
    absurd (omega (arith, bytes))
of_another (suc i) more at known is = absurd (none-some (Ack (numbered 1) 0 1 more 0) at)

is_refused : Answer → Bool
is_refused (Ack source start count new left) = false
is_refused (No of code place) = true

-- An upload that can't be read stands before it once.
behind_unread : AcknowledgeNoOther (numbered 1) 1 (upload_of 1 of_one) (None ∷ alone 1 of_one) (unread ∷ acks 1 0)
unfolding is_refused
behind_unread zero more at known is =
    let refused : true ≡ false = ap is_refused (same_Some unread (Ack (numbered 1) 0 1 more 0) at) in absurd cc
behind_unread (suc i) more at known is = its_own 0 i more at known is

-- One is stored and isn't acknowledged.
behind_stop : AcknowledgeNoOther (numbered 1) 1 (upload_of 1 of_one) (alone 3 of_lost) (uncommitted 3 ∷ [])
unfolding is_refused
behind_stop zero more at known is =
    let refused : true ≡ false = ap is_refused (same_Some (uncommitted 3) (Ack (numbered 1) 0 1 more 0) at) in absurd cc
behind_stop (suc i) more at known is = absurd (none-some (Ack (numbered 1) 0 1 more 0) at)

pub may_delete : OneEach → MayDelete (upload_of 1 of_one) line worked
unfolding acknowledge
may_delete one = record {
  acknowledge = acknowledge;
  printed = was_printed one;
  alone = (its_own 1, (none, (of_another, (behind_unread, (none, (behind_stop, (none, (none, (its_own 1, (none, tt))))))))));
}
  where
    none : AcknowledgeNoOther (numbered 1) 1 (upload_of 1 of_one) [] []
    none i more at known is = absurd (none-some known is)
