-- What lines say of an upload.
use Rattle.std.proofs.Common.{◌≡◌, ◌∙◌, ⊎_elim, ℕ, List, [], ◌∷◌, ◌++◌, Option, Some, None, take, drop, length, refl, sym, ap, subst, arith}
use Rattle.std.specs.Prelude.{◌≢◌, IfOk, IfSome, MatchOption, Ok, Result}
use Rattle.std.specs.List.{Contains}
use Rattle.std.proofs.Math.Seq.{take-append_seam}
use Rattle.std.proofs.lemmas.Result.{IfOk-weaker}
use Rattle.std.proofs.lemmas.List.{append-nil, append_assoc, take-append-drop}
use Rattle.std.proofs.lemmas.List.Elements.{Contains-append_left, Contains-append_right, Contains-append_cases, Contains-push, Contains-push_cases}
use Rattle.jc_upload.specs.Answer.{IsAnswer, answer_text}
use Rattle.jc_upload.specs.Head.{IsHead, head_text}
use Rattle.jc_upload.specs.declared.answer.Answer.{Answer}
use Rattle.jc_upload.specs.declared.head.UploadHead.{UploadHead}
use Rattle.jc_upload.specs.declared.answer.Answer.TheVariants.{Ack, No}
use Rattle.jc_upload.proofs.HeadLemmas.{head_length}
use Rattle.jc_command_shared.specs.Lines.{lines_of}
use Rattle.jc_sender.specs.Acknowledged.{AcknowledgesAll, BringsAll, HasAnswer, IsBy, IsHeadOf, IsLastRefusal, Refuses, Says, Tells, TellsOfSome, TellsOfUpload, after, whole_head}
use Rattle.jc_command_shared.specs.declared.status.Status.{Status}
use Rattle.jc_sender.specs.declared.decided.Sent.{Sent}
use Rattle.jc_sender.specs.declared.decided.Outcome.{Outcome}
use Rattle.jc_sender.specs.declared.decided.Outcome.TheVariants.{Acknowledged, Refused, Unanswered}

-- ---- lines and others behind them

module _ (Is : Answer → Type 0) (xs ys : List (List ℕ)) where
  in_front : HasAnswer Is xs → HasAnswer Is (xs ++ ys)
  in_front has = record { answer = has.answer; lawful = has.lawful; is = has.is; line = Contains-append_left xs ys (answer_text has.answer) has.line }

  behind : HasAnswer Is ys → HasAnswer Is (xs ++ ys)
  behind has = record { answer = has.answer; lawful = has.lawful; is = has.is; line = Contains-append_right xs ys (answer_text has.answer) has.line }

  neither : ¬ HasAnswer Is xs → ¬ HasAnswer Is ys → ¬ HasAnswer Is (xs ++ ys)
  neither first second has = ⊎_elim
      (λ (there : Contains xs (answer_text has.answer)). first (record { answer = has.answer; lawful = has.lawful; is = has.is; line = there }))
      (λ (there : Contains ys (answer_text has.answer)). second (record { answer = has.answer; lawful = has.lawful; is = has.is; line = there }))
      (Contains-append_cases xs ys (answer_text has.answer) has.line)

module _ (sent : Sent) (xs ys : List (List ℕ)) where
  refused_before : (answer : Answer) → IsLastRefusal sent xs answer → ¬ HasAnswer (Refuses sent) ys → IsLastRefusal sent (xs ++ ys) answer
  refused_before answer is none = record {
    lawful = is.lawful;
    refuses = is.refuses;
    before = is.before;
    behind = is.behind ++ ys;
    split = ap (λ (lines : List (List ℕ)). lines ++ ys) is.split ∙ append_assoc is.before (answer_text answer ∷ is.behind) ys;
    last = neither (Refuses sent) is.behind ys is.last none;
  }

  refused_behind : (answer : Answer) → IsLastRefusal sent ys answer → IsLastRefusal sent (xs ++ ys) answer
  refused_behind answer is = record {
    lawful = is.lawful;
    refuses = is.refuses;
    before = xs ++ is.before;
    behind = is.behind;
    split = ap (λ (lines : List (List ℕ)). xs ++ lines) is.split ∙ sym (append_assoc xs is.before (answer_text answer ∷ is.behind));
    last = is.last;
  }

  pub says_both : (a b : Outcome) → Says sent xs a → Says sent ys b → Says sent (xs ++ ys) (after a b)
  says_both Acknowledged b first second = in_front (AcknowledgesAll sent) xs ys first
  says_both (Refused a) Acknowledged first second = behind (AcknowledgesAll sent) xs ys second
  says_both Unanswered Acknowledged first second = behind (AcknowledgesAll sent) xs ys second
  says_both (Refused a) (Refused b) first second = (neither (AcknowledgesAll sent) xs ys first.0 second.0, refused_behind b second.1)
  says_both Unanswered (Refused b) first second = (neither (AcknowledgesAll sent) xs ys first.0 second.0, refused_behind b second.1)
  says_both (Refused a) Unanswered first second = (neither (AcknowledgesAll sent) xs ys first.0 second.0, refused_before a first.1 second.1)
  says_both Unanswered Unanswered first second =
      (neither (AcknowledgesAll sent) xs ys first.0 second.0, neither (Refuses sent) xs ys first.1 second.1)

-- no line says nothing
none_there : (Is : Answer → Type 0) → ¬ HasAnswer Is []
none_there Is has = omega (arith, has.line.1)

-- Lines were read, and these are left.
pub record SaysSoFar (sent : Sent) (text rest : List ℕ) (outcome : Outcome) : Type 0 where
  pub read : List (List ℕ)
  pub lines : lines_of text ≡ read ++ lines_of rest
  pub says : Says sent read outcome

pub none_read : (sent : Sent) (text : List ℕ) → SaysSoFar sent text text Unanswered
none_read sent text = record {
  read = [];
  lines = refl;
  says = (none_there (AcknowledgesAll sent), none_there (Refuses sent));
}

pub one_read : (sent : Sent) (text rest line left : List ℕ) (outcome one : Outcome) → SaysSoFar sent text rest outcome
    → lines_of rest ≡ line ∷ lines_of left → Says sent (line ∷ []) one → SaysSoFar sent text left (after outcome one)
one_read sent text rest line left outcome one so_far first says = record {
  read = so_far.read ++ line ∷ [];
  lines = so_far.lines ∙ (ap (λ (lines : List (List ℕ)). so_far.read ++ lines) first ∙ sym (append_assoc so_far.read (line ∷ []) (lines_of left)));
  says = says_both sent so_far.read (line ∷ []) outcome one so_far.says says;
}

pub all_read : (sent : Sent) (text rest : List ℕ) (outcome : Outcome) → length rest ≡ 0 → SaysSoFar sent text rest outcome
    → Says sent (lines_of text) outcome
unfolding lines_of
all_read sent text [] outcome none so_far =
    subst (λ (lines : List (List ℕ)). Says sent lines outcome) (sym (so_far.lines ∙ append-nil so_far.read)) so_far.says
all_read sent text (b ∷ rest) outcome none so_far = absurd (omega (arith, none))

-- ---- one line

only_one : (line : List ℕ) (text : List ℕ) → Contains (line ∷ []) text → line ≡ text
only_one line text there = ⊎_elim (λ (none : Contains [] text). absurd (omega (arith, none.1))) (λ is. is) (Contains-push_cases [] line text there)

not_both : (sent : Sent) (answer : Answer) → AcknowledgesAll sent answer → Refuses sent answer → ⊥
not_both sent (Ack source start count new left) all refuses = refuses
not_both sent (No of code place) all refuses = all

module _ (sent : Sent) (line : List ℕ) (read : Option Answer)
    (only : (a : Answer) → IsAnswer a → line ≡ answer_text a → read ≡ Some a) where
  is_read : (Is : Answer → Type 0) (has : HasAnswer Is (line ∷ [])) → read ≡ Some has.answer
  is_read Is has = only has.answer has.lawful (only_one line (answer_text has.answer) has.line)

  pub none_said : read ≡ None → Says sent (line ∷ []) Unanswered
  none_said none = (
    (λ has. let both : None ≡ Some has.answer = sym none ∙ is_read (AcknowledgesAll sent) has in cc),
    (λ has. let both : None ≡ Some has.answer = sym none ∙ is_read (Refuses sent) has in cc),
  )

  module _ (answer : Answer) (is : read ≡ Some answer) (lawful : IsAnswer answer) (text : line ≡ answer_text answer) where
    same : (Is : Answer → Type 0) → HasAnswer Is (line ∷ []) → Is answer
    same Is has =
        let both : Some answer ≡ Some has.answer = sym is ∙ is_read Is has in
        let one : answer ≡ has.answer = cc in
        subst Is (sym one) has.is

    has_it : (Is : Answer → Type 0) → Is answer → HasAnswer Is (line ∷ [])
    has_it Is it = record { answer = answer; lawful = lawful; is = it; line = subst (λ (t : List ℕ). Contains (line ∷ []) t) text (Contains-push [] line) }

    pub one_said : (outcome : Outcome) → IsBy sent answer outcome → Says sent (line ∷ []) outcome
    one_said Acknowledged by = has_it (AcknowledgesAll sent) by
    one_said (Refused other) by = subst (λ (a : Answer). Says sent (line ∷ []) (Refused a)) (sym by.0) (
      (λ has. not_both sent answer (same (AcknowledgesAll sent) has) by.1),
      record {
        lawful = lawful;
        refuses = by.1;
        before = [];
        behind = [];
        split = ap (λ (t : List ℕ). t ∷ []) text;
        last = none_there (Refuses sent);
      },
    )
    one_said Unanswered by = ((λ has. by.0 (same (AcknowledgesAll sent) has)), (λ has. by.1 (same (Refuses sent) has)))

-- ---- the header

pub head_long : (bytes : List ℕ) (sent : Sent) → IsHeadOf bytes sent → length bytes ≡ 48
head_long bytes sent is = ap length is.text ∙ head_length (whole_head sent) is.lawful

pub front_of : (upload : List ℕ) (sent : Sent) → BringsAll upload sent → IsHeadOf (take 48 upload) sent
front_of upload sent brings = record {
  lawful = brings.1.lawful;
  text = ap (take 48) brings.1.whole ∙ (ap (λ (n : ℕ). take n (head_text (whole_head sent) ++ brings.0)) (sym (head_length (whole_head sent) brings.1.lawful))
      ∙ take-append_seam (head_text (whole_head sent)) brings.0);
}

pub brings_by : (upload : List ℕ) (sent : Sent) → IsHeadOf (take 48 upload) sent → BringsAll upload sent
brings_by upload sent is = (drop 48 upload, record { lawful = is.lawful; whole = sym (take-append-drop 48 upload) ∙ ap (λ (t : List ℕ). t ++ drop 48 upload) is.text })

-- what the header brings that was read
pub brings_read : {E : Type 0} (bytes : List ℕ) (head : UploadHead) (read : Result UploadHead E) (found : Option Sent) → read ≡ Ok head
    → IsHead head → bytes ≡ head_text head → ((h : UploadHead) → IsHead h → bytes ≡ head_text h → read ≡ Ok h)
    → MatchOption found ((sent : Sent) → head ≢ whole_head sent) (λ sent. head ≡ whole_head sent)
    → MatchOption found ((sent : Sent) → ¬ IsHeadOf bytes sent) (IsHeadOf bytes)
brings_read bytes head read None is_read lawful text only none = λ sent is.
    none sent (let both : Ok head ≡ Ok (whole_head sent) = sym is_read ∙ only (whole_head sent) is.lawful is.text in cc)
brings_read bytes head read (Some sent) is_read lawful text only same =
    record { lawful = subst IsHead same lawful; text = text ∙ ap head_text same }

-- ---- what is told

brings_alone : (bytes : List ℕ) (sent : Sent) → IsHeadOf bytes sent → BringsAll bytes sent
brings_alone bytes sent is = ([], record { lawful = is.lawful; whole = is.text ∙ sym (append-nil (head_text (whole_head sent))) })

pub told_of : {E : Type 0} (front text : List ℕ) (sent : Sent) (given : Option (List ℕ)) (r : Result Status E) (outcome : Outcome) (old new : Option (List ℕ))
    → IsHeadOf front sent → IfSome given (λ held. text ≡ held) → Says sent (lines_of text) outcome → IfOk r (λ status. Tells outcome status old new)
    → IfOk r (λ status. TellsOfSome given status old new)
told_of front text sent given r outcome old new is came says told =
    IfOk-weaker r _ _ (λ status tells. (
      front,
      record {
        sent = sent;
        brings = brings_alone front sent is;
        text = text;
        came = came;
        tells = record { outcome = outcome; says = says; told = tells };
      },
    )) told

-- the first bytes of known ones
same_front : (front upload : List ℕ) (known : Option (List ℕ)) → known ≡ Some upload → IfSome known (λ held. front ≡ take 48 held)
    → front ≡ take 48 upload
same_front front upload known is has = subst (λ (o : Option (List ℕ)). IfSome o (λ held. front ≡ take 48 held)) is has

pub told_of_known : {E : Type 0} (front text upload : List ℕ) (sent : Sent) (known given : Option (List ℕ)) (r : Result Status E) (outcome : Outcome)
    (old new : Option (List ℕ)) → known ≡ Some upload → IfSome known (λ held. front ≡ take 48 held)
    → IsHeadOf front sent → IfSome given (λ held. text ≡ held) → Says sent (lines_of text) outcome → IfOk r (λ status. Tells outcome status old new)
    → IfOk r (λ status. TellsOfUpload upload given status old new)
told_of_known front text upload sent known given r outcome old new is_known has is came says told =
    IfOk-weaker r _ _ (λ status tells. record {
      sent = sent;
      brings = brings_by upload sent (subst (λ (bytes : List ℕ). IsHeadOf bytes sent) (same_front front upload known is_known has) is);
      text = text;
      came = came;
      tells = record { outcome = outcome; says = says; told = tells };
    }) told

pub not_bad : (front upload : List ℕ) (known : Option (List ℕ)) (sent : Sent) → known ≡ Some upload → IfSome known (λ held. front ≡ take 48 held)
    → BringsAll upload sent → ((s : Sent) → ¬ IsHeadOf front s) → ⊥
not_bad front upload known sent is_known has brings none =
    none sent (subst (λ (bytes : List ℕ). IsHeadOf bytes sent) (sym (same_front front upload known is_known has)) (front_of upload sent brings))
