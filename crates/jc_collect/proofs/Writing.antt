-- What is written of answers, one after the other.
use Rattle.std.proofs.Common.{ℕ, zero, suc, ◌+◌, List, [], ◌∷◌, ◌++◌, Option, length, take, ◌<◌, refl, sym, ap, subst, ◌∙◌, arith}
use Rattle.std.specs.List.{All}
use Rattle.std.specs.Io.KnownBytes.{Appends, Keeps}
use Rattle.std.proofs.KnownBytes.{Appends-kept, Appends-nil, Appends-trans}
use Rattle.std.proofs.lemmas.List.{take_all}
use Rattle.std.proofs.lemmas.List.Elements.{All-append}
use Rattle.jc_base.specs.Device.{WentOut}
use Rattle.jc_base.specs.declared.fault.Code.TheVariants.{NotTheOwner}
use Rattle.jc_upload.specs.Answer.{IsAnswer, answer_text}
use Rattle.jc_upload.specs.declared.answer.Answer.{Answer}
use Rattle.jc_collect.specs.Position.{HasCode}
use Rattle.jc_collect.specs.Run.{OnlyIfOwned, WritesWith, lines_of_answers}
use Rattle.jc_collect.specs.declared.runs.RunEnd.TheVariants.{Done, Stopped}
use Rattle.jc_collect.specs.RunLaws.{owned_none, owned_one, owned_then}
use Rattle.jc_collect.proofs.Lists.{length_more}
use Rattle.jc_collect.proofs.UnderWay.{lines_more}

pub written_none : (Owners : Type 0) (written : Option (List ℕ)) → WritesWith (OnlyIfOwned Owners) 0 written written Done
written_none Owners written = (
  record { answers = []; number = refl; lawful = λ i d within. absurd (omega (arith, within)); lines = Appends-nil written },
  owned_none Owners,
)

alone : (answer : Answer) → IsAnswer answer → All IsAnswer (answer ∷ [])
alone answer lawful zero d within = lawful
alone answer lawful (suc i) d within = absurd (omega (arith, within))

pub one_more : (answers : List Answer) (answer : Answer) → All IsAnswer answers → IsAnswer answer → All IsAnswer (answers ++ answer ∷ [])
one_more answers answer all lawful = All-append IsAnswer answers (answer ∷ []) all (alone answer lawful)

module _ (Owners : Type 0) (count : ℕ) (before written now : Option (List ℕ)) (answer : Answer)
    (so_far : WritesWith (OnlyIfOwned Owners) count before written Done) (lawful : IsAnswer answer) (one : HasCode answer NotTheOwner → Owners) where
  pub written_more : Appends written now (answer_text answer) → WritesWith (OnlyIfOwned Owners) (count + 1) before now Done
  written_more out =
      let wrote = so_far.0 in (
        record {
          answers = wrote.answers ++ answer ∷ [];
          number = length_more wrote.answers answer ∙ ap (λ n. n + 1) wrote.number;
          lawful = one_more wrote.answers answer wrote.lawful lawful;
          lines = subst (λ (l : List ℕ). Appends before now l) (sym (lines_more wrote.answers answer))
              (Appends-trans before written now (lines_of_answers wrote.answers) (answer_text answer) wrote.lines out);
        },
        owned_then Owners wrote.answers (answer ∷ []) so_far.1 (owned_one Owners answer one),
      )

  pub written_up_to : (deliveries bytes : ℕ) → count < deliveries → WentOut written now (answer_text answer) bytes
      → WritesWith (OnlyIfOwned Owners) deliveries before now (Stopped count bytes)
  written_up_to deliveries bytes inside out =
      let wrote = so_far.0 in (
        inside,
        record {
          answers = wrote.answers;
          last = answer;
          number = wrote.number;
          lawful = one_more wrote.answers answer wrote.lawful lawful;
          within = out.within;
          lines = Appends-trans before written now (lines_of_answers wrote.answers) (take bytes (answer_text answer)) wrote.lines out.front;
        },
        owned_then Owners wrote.answers (answer ∷ []) so_far.1 (owned_one Owners answer one),
      )

-- a sink failed when it was asked once more behind a text: all of that went out
pub asked_whole : (before mid now : Option (List ℕ)) (text : List ℕ) → Appends before mid text → Keeps mid now → WentOut before now text (length text)
asked_whole before mid now text out keeps = record {
  within = omega arith;
  front = subst (λ (l : List ℕ). Appends before now l) (sym (take_all (length text) text (omega arith))) (Appends-kept before mid now text out keeps);
}
