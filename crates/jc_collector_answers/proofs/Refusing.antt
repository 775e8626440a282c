-- Uploads of which nothing is taken up, and such of which nothing is told.
use Rattle.std.proofs.Common.{◌≡◌, ◌∙◌, ◌||◌, ◌++◌, ℕ, zero, suc, Bool, true, false, List, [], ◌∷◌, Option, Some, None, Result, Ok, Err, take, refl, sym, subst, inl, inr, ⊎_elim, arith}
use Rattle.std.specs.Prelude.{OnOk, if◌then◌else◌}
use Rattle.std.specs.List.{All, list_any}
use Rattle.std.specs.Io.KnownBytes.{Appends, Keeps}
use Rattle.std.proofs.lemmas.List.{append-nil}
use Rattle.jc_base.specs.declared.fault.Code.TheVariants.{NotTheOwner, ReadFailed, StoreFailed}
use Rattle.jc_base.specs.Fault.{number_of}
use Rattle.jc_base.specs.declared.id.Id128.{Id128}
use Rattle.jc_base.specs.declared.limits.Limits.{Limits}
use Rattle.jc_collect.specs.Answer.{is_failure_code}
use Rattle.jc_collect.specs.Crash.{IsUnstored}
use Rattle.jc_collect.specs.ForeignLaws.{foreign_untold}
use Rattle.jc_collect.specs.Position.{Collects}
use Rattle.jc_collect.specs.Taken.{HasCollected}
use Rattle.jc_collect.specs.Together.{TakesUp}
use Rattle.jc_collect.specs.Wide.{IsRefusal}
use Rattle.jc_collect.proofs.Each.{unknown_of}
use Rattle.jc_collect.proofs.OneMore.{SaysOnce}
use Rattle.jc_keeper.specs.declared.keeper.Keeper as keepers
use Rattle.jc_keeper.specs.BroughtLaws.{brought_none}
use Rattle.jc_keeper.specs.ClaimedLaws.{claimed_none}
use Rattle.jc_upload.specs.Answer.{IsAnswer, answer_text}
use Rattle.jc_upload.specs.declared.answer.Answer.{Answer}
use Rattle.jc_upload.specs.declared.answer.Answer.TheVariants.{Ack, No}
use Rattle.jc_command_shared.specs.OutputLaws.{Appends-kept}
use Rattle.jc_command_shared.specs.declared.status.Status.{Status}
use Rattle.jc_command_shared.specs.declared.status.Status.TheVariants.{Success, Refused, Failed}
use Rattle.jc_collector_answers.specs.Answered.{is_refusal, judged, status_with}
use Rattle.jc_collector_answers.specs.Tied.{IsAlone, PrintsFront, PrintsWith}

-- ---- an upload of which nothing is taken up

module _ {K : Type 0} (k : keepers.Ghosts K) (limits : Limits) (keeper : K) where
  not_taken : (known : Option (List ℕ)) (of : Option (Id128 × ℕ)) (code place : ℕ) → Collects limits known (k.journal keeper) (No of code place) (k.journal keeper)
      → ¬ (code ≡ number_of NotTheOwner) → ¬ (code ≡ number_of StoreFailed) → HasCollected k limits known keeper keeper (No of code place)
  not_taken known of code place collects owned stored = record {
    position = λ is is_made late. collects;
    was_sound = λ is. is;
    was_clean = λ is. is;
    acknowledged = λ once is acks. cc;
    crash = λ is is_made found may. inl may;
    recovers = λ is is_made leaves. leaves;
    stays_made = λ is. is;
    settled = λ was. inr was;
    owner = λ other. absurd (owned other);
    foreign = λ is machine brings other. absurd (owned other);
    brought = brought_none k.brings keeper;
    claimed = claimed_none (IsUnstored (No of code place)) keeper;
    store = record { never_falls = omega arith; failed = λ other. absurd (stored other) };
  }

  -- nothing could be read of it
  pub unread_taken : (known : Option (List ℕ)) (answers more : List Answer) → more ≡ answers ++ No None (number_of ReadFailed) 0 ∷ []
      → TakesUp k limits known keeper keeper answers more
  unread_taken known answers more is = record {
    answer = No None (number_of ReadFailed) 0;
    behind = is;
    collected = not_taken known None (number_of ReadFailed) 0 (left known) (λ other. absurd (omega (arith, other))) (λ other. absurd (omega (arith, other)));
  }
    where
      left : (known : Option (List ℕ)) → Collects limits known (k.journal keeper) (No None 61 0) (k.journal keeper)
      left None = refl
      left (Some upload) = record { answers = record { failure = refl; at = refl }; leaves = refl }

  -- it was refused
  pub refused_taken : (answer : Answer) → IsRefusal answer → (answers more : List Answer) → more ≡ answers ++ answer ∷ [] → TakesUp k limits None keeper keeper answers more
  refused_taken (Ack source from count new left) refused answers more is = absurd refused
  refused_taken (No of code place) refused answers more is =
      record { answer = No of code place; behind = is; collected = not_taken None of code place refl refused.0 refused.1 }

-- ---- an upload of which nothing is told

pub untold_taken : SaysOnce → {K : Type 0} (k : keepers.Ghosts K) (limits : Limits) (known : Option (List ℕ)) (old new : K) (answers more : List Answer)
    → TakesUp k limits known old new answers more → TakesUp k limits None old new answers more
untold_taken once k limits known old new answers more took =
    let one = took.collected in
    record {
      answer = took.answer;
      behind = took.behind;
      collected = record {
        position = λ is is_made late. unknown_of once limits known (k.journal old) took.answer (k.journal new) (one.position is is_made late);
        was_sound = one.was_sound;
        was_clean = one.was_clean;
        acknowledged = one.acknowledged;
        crash = λ is is_made found may. ⊎_elim
            (λ was. inl was)
            (λ added. inr (
              added.0,
              record {
                answered = added.1.answered;
                source = added.1.source;
                start = added.1.start;
                count = added.1.count;
                new = added.1.new;
                left = added.1.left;
                collects = unknown_of once limits known (k.journal old) (Ack added.1.source added.1.start added.1.count added.1.new added.1.left) found added.1.collects;
              },
            ))
            (one.crash is is_made found may);
        recovers = one.recovers;
        stays_made = one.stays_made;
        settled = one.settled;
        owner = one.owner;
        foreign = λ is machine brings. foreign_untold limits known ((k.whose old).foreign machine) took.answer (one.foreign is machine brings);
        brought = one.brought;
        claimed = one.claimed;
        store = one.store;
      };
    }

-- ---- answers of which none refuses

pub none_refused : (answers more : List Answer) → list_any is_refusal (answers ++ more) ≡ false → list_any is_refusal answers ≡ false
none_refused [] more none = refl
none_refused (Ack source from count new left ∷ answers) more none = none_refused answers more none
none_refused (No of code place ∷ answers) more none = cc

-- what is so if a call did it
pub done_so : {T F P Q : Type 0} (result : Result T F) → (P → Q) → OnOk result P → OnOk result Q
done_so (Ok value) so did = so did
done_so (Err failure) so did = tt

-- ---- the line of one answer

alone : (answer : Answer) → IsAnswer answer → All IsAnswer (answer ∷ [])
alone answer is zero d below = is
alone answer is (suc k) d below = absurd (omega (arith, below))

judged_alone : (answer : Answer) → status_with Success answer ≡ judged (answer ∷ [])
judged_alone (Ack source start count new left) = refl
judged_alone (No of code place) = by (is_failure_code code)
  where
    by : (failed : Bool) → (if failed then Failed else Refused) ≡ (if (failed || false) then Failed else (if (true || false) then Refused else Success))
    by true = refl
    by false = refl

pub printed_alone : (answer : Answer) (bytes line : List ℕ) (status : Status) (old mid new : Option (List ℕ)) → Appends old mid bytes → Keeps mid new
    → bytes ≡ line → line ≡ answer_text answer → IsAnswer answer → status ≡ status_with Success answer
    → PrintsWith (IsAlone answer) 1 status old new
printed_alone answer bytes line status old mid new out keeps same is lawful judges = record {
  shown = record {
    answers = answer ∷ [];
    each = refl;
    lawful = alone answer lawful;
    is = judges ∙ judged_alone answer;
    printed = subst (λ (l : List ℕ). Appends old new l) (same ∙ is ∙ sym (append-nil (answer_text answer)))
        (Appends-kept old mid new bytes out keeps);
  };
  holds = refl;
}

pub front_alone : (answer : Answer) (bytes : ℕ) (text line : List ℕ) (old new : Option (List ℕ)) → Appends old new (take bytes text)
    → text ≡ line → line ≡ answer_text answer → PrintsFront (IsAlone answer) old new
front_alone answer bytes text line old new out same is = record {
  answers = [];
  more = answer ∷ [];
  few = omega arith;
  bytes = bytes;
  printed = subst (λ (l : List ℕ). Appends old new (take bytes l)) (same ∙ is ∙ sym (append-nil (answer_text answer))) out;
  holds = refl;
}
