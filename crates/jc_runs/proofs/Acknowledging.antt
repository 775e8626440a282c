-- What acknowledgements say of uploads that were collected one after the other.
use Rattle.std.proofs.Common.{◌≡◌, ◌∙◌, ℕ, zero, suc, List, [], ◌∷◌, ◌++◌, Option, Some, None, refl, sym, ap, subst, inl, inr, rules}
use Rattle.std.specs.List.{AllByRecursion, Contains, slice_get}
use Rattle.std.specs.Option.{IfSome}
use Rattle.std.proofs.lemmas.List.Elements.{All-contains_itself}
use Rattle.std.proofs.lemmas.Option.{none-some, same_Some, slice_get-get_or}
use Rattle.jc_base.specs.declared.id.Id128.{Id128}
use Rattle.jc_base.specs.declared.limits.Limits.{Limits}
use Rattle.jc_base.specs.Journal.{Journal}
use Rattle.jc_base.specs.LimitBounds.{AreDefaults}
use Rattle.jc_base.specs.LogEntry.{LogEntry}
use Rattle.jc_base.specs.Reading.{Reading}
use Rattle.jc_collect.specs.Answer.{IsTaken}
use Rattle.jc_collect.specs.Each.{CollectsEach, HasAcknowledged, KeepsCollected, NoneAcknowledged, StoresEach}
use Rattle.jc_collect.specs.Position.{Collects, Joins}
use Rattle.jc_command_shared.specs.declared.status.Status.TheVariants.{Success}
use Rattle.jc_command_shared.specs.Lines.{lines_of}
use Rattle.jc_keeper.specs.Agree.{HasBoth, IsStored}
use Rattle.jc_sender.specs.Acknowledged.{AcknowledgesAll, HasAnswer, TellsOfUpload}
use Rattle.jc_upload.specs.Answer.{IsAnswer, answer_text}
use Rattle.jc_upload.specs.declared.answer.Answer.{Answer}
use Rattle.jc_upload.specs.declared.answer.Answer.TheVariants.{Ack, No}
use Rattle.jc_upload.specs.Says.{Says as SaysIn}
use Rattle.jc_runs.specs.Acknowledged.{AcknowledgeNoOther, AreAcknowledged, HoldsOfAll, IsAcknowledged, ReadsAs}
use Rattle.jc_runs.specs.Between.{Between, IsInOne, journals}
use Rattle.jc_runs.specs.Safe.{AcknowledgeAll, IsPrinted, MayDelete}
use Rattle.jc_runs.specs.Stands.{Keeps}
use Rattle.jc_runs.specs.Steps.{Step, answered_in, answers_of}

-- under some default limits what each upload says is one reading, and what is acknowledged is stored
pub record Collecting : Type 0 where
  pub limits : Limits
  pub defaults : AreDefaults limits.name limits.value limits.fields limits.entry limits.file
  pub each : (limits : Limits) (known : List (Option (List ℕ))) (start last : Journal) (answers : List Answer)
      → CollectsEach limits known start answers last → StoresEach start answers last
  pub stored : (start last : Journal) (answers : List Answer) → StoresEach start answers last → HasAcknowledged start answers last
  pub once : (limits : Limits) (upload : List ℕ) (r s : Reading) → SaysIn limits upload r → SaysIn limits upload s → r ≡ s

-- What uploads made of a journal has all that was stored, and of each acknowledged one all that it reads as.
pub record Takes (uploads : List (Option (List ℕ))) (start : Journal) (answers : List Answer) (last : Journal) : Type 0 where
  pub kept : (e : LogEntry) → IsStored start e → IsStored last e
  pub acknowledged : AreAcknowledged (IsStored last) uploads answers

pub wider : (P Q : LogEntry → Type 0) → ((e : LogEntry) → P e → Q e) → (upload : Option (List ℕ)) (source : Id128) (start count left : ℕ)
    → IsAcknowledged P upload source start count left → IsAcknowledged Q upload source start count left
wider P Q leads upload source start count left is = record {
  reading = is.reading;
  counted = is.counted;
  holds = λ k d within. leads _ (is.holds k d within);
  reads = is.reads;
}

pub all_wider : (P Q : LogEntry → Type 0) → ((e : LogEntry) → P e → Q e) → (uploads : List (Option (List ℕ))) (answers : List Answer)
    → AreAcknowledged P uploads answers → AreAcknowledged Q uploads answers
all_wider P Q leads uploads answers are i source start count new left at =
    let one = are i source start count new left at in
    (one.0, one.1, wider P Q leads one.0 source start count left one.2)

-- ---- one after the other

module _ (c : Collecting) where
  stays : (known : List (Option (List ℕ))) (start last : Journal) (answers : List Answer) → CollectsEach c.limits known start answers last
      → (e : LogEntry) → IsStored start e → IsStored last e
  stays known start last answers h = (c.stored start last answers (c.each c.limits known start last answers h)).kept

  one : (upload : Option (List ℕ)) (before after : Journal) (source : Id128) (start count new left : ℕ)
      → Collects c.limits upload before (Ack source start count new left) after → IsAcknowledged (IsStored after) upload source start count left
  one None before after source start count new left (reading, takes) = record {
    reading = reading;
    counted = takes.counted;
    holds = λ k d within. (takes.has _).1 (inr (All-contains_itself reading.entries k d within));
    reads = tt;
  }
  one (Some bytes) before after source start count new left is = taken is.answers is.leaves
    where
      taken : IsTaken c.limits bytes before (source, start) count new left → Joins c.limits bytes before after
          → IsAcknowledged (IsStored after) (Some bytes) source start count left
      taken t j =
          let same : j.reading ≡ t.reading = c.once c.limits bytes j.reading t.reading j.says (inr (t.head, t.says)) in
          let has : HasBoth before t.reading.entries after = subst (λ (r : Reading). HasBoth before r.entries after) same j.has in
          record {
            reading = t.reading;
            counted = t.counted;
            holds = λ k d within. (has _).1 (inr (All-contains_itself t.reading.entries k d within));
            reads = record { limits = c.limits; defaults = c.defaults; head = t.head; says = t.says; named = t.named; ended = t.ended };
          }

  each_one : (known : List (Option (List ℕ))) (before last : Journal) (answers : List Answer) → CollectsEach c.limits known before answers last
      → (i : ℕ) (source : Id128) (start count new left : ℕ) → slice_get answers i ≡ Some (Ack source start count new left)
      → (upload : Option (List ℕ)) × (slice_get known i ≡ Some upload) × IsAcknowledged (IsStored last) upload source start count left
  each_one [] before last [] same i source start count new left at = absurd (none-some _ at)
  each_one [] before last (answer ∷ answers) none i source start count new left at = absurd none
  each_one (k ∷ known) before last [] none i source start count new left at = absurd none
  each_one (k ∷ known) before last (answer ∷ answers) (after, position, more) zero source start count new left at = (
    k,
    refl,
    wider (IsStored after) (IsStored last) (stays known after last answers more) k source start count left
        (one k before after source start count new left
        (subst (λ (a : Answer). Collects c.limits k before a after) (same_Some answer (Ack source start count new left) at) position)),
  )
  each_one (k ∷ known) before last (answer ∷ answers) (after, position, more) (suc i) source start count new left at =
      each_one known after last answers more i source start count new left at

  pub takes_each : (known : List (Option (List ℕ))) (start last : Journal) (answers : List Answer)
      → CollectsEach c.limits known start answers last → Takes known start answers last
  takes_each known start last answers h = record { kept = stays known start last answers h; acknowledged = each_one known start last answers h }

  -- ---- what a crash leaves

  none_here : (answers : List Answer) → NoneAcknowledged answers → (i : ℕ) (source : Id128) (start count new left : ℕ)
      → ¬ (slice_get answers i ≡ Some (Ack source start count new left))
  none_here [] none i source start count new left at = none-some _ at
  none_here (Ack s f n m l ∷ answers) none i source start count new left at = none
  none_here (No of code place ∷ answers) none zero source start count new left at =
      let is : No of code place ≡ Ack source start count new left = same_Some _ _ at in
      cc
  none_here (No of code place ∷ answers) none (suc i) source start count new left at = none_here answers none i source start count new left at

  in_front : (front behind : List Answer) → NoneAcknowledged behind → (i : ℕ) (source : Id128) (start count new left : ℕ)
      → slice_get (front ++ behind) i ≡ Some (Ack source start count new left) → slice_get front i ≡ Some (Ack source start count new left)
  in_front [] behind none i source start count new left at = absurd (none_here behind none i source start count new left at)
  in_front (a ∷ front) behind none zero source start count new left at = at
  in_front (a ∷ front) behind none (suc i) source start count new left at = in_front front behind none i source start count new left at

  ahead_at : (ahead others : List (Option (List ℕ))) (i : ℕ) (k : Option (List ℕ)) → slice_get ahead i ≡ Some k → slice_get (ahead ++ others) i ≡ Some k
  ahead_at [] others i k at = absurd (none-some k at)
  ahead_at (a ∷ ahead) others zero k at = at
  ahead_at (a ∷ ahead) others (suc i) k at = ahead_at ahead others i k at

  pub takes_found : (known : List (Option (List ℕ))) (start found : Journal) (answers : List Answer)
      → KeepsCollected c.limits known start answers found → Takes known start answers found
  takes_found known start found answers keeps = record {
    kept = λ e stored. has e (stays keeps.ahead start keeps.last keeps.front keeps.collected e stored);
    acknowledged = λ i source from count new left at.
        let front = in_front keeps.front keeps.behind keeps.none i source from count new left
        (subst (λ (l : List Answer). slice_get l i ≡ Some (Ack source from count new left)) keeps.whole at) in
        let here = each_one keeps.ahead start keeps.last keeps.front keeps.collected i source from count new left front in (
          here.0,
          subst (λ (l : List (Option (List ℕ))). slice_get l i ≡ Some here.0) (sym keeps.are) (ahead_at keeps.ahead keeps.others i here.0 here.1),
          wider (IsStored keeps.last) (IsStored found) has here.0 source from count left here.2,
        );
  }
    where
      has : (e : LogEntry) → IsStored keeps.last e → IsStored found e
      has e stored = stays keeps.more.ahead keeps.last found keeps.more.would keeps.more.collected e stored

-- ---- a machine deletes

module _ (P : LogEntry → Type 0) (upload : List ℕ) (source : Id128) (count new : ℕ) where
  -- The answer at a place acknowledges all of the upload.
  of_one : (uploads : List (Option (List ℕ))) (answers : List Answer) → AreAcknowledged P uploads answers
      → AcknowledgeNoOther source count upload uploads answers
      → (i : ℕ) → slice_get answers i ≡ Some (Ack source 0 count new 0) → HoldsOfAll P upload
  of_one uploads answers are alone i at = record {
    source = source;
    reading = it.reading;
    reads = subst (λ (k : Option (List ℕ)). IfSome k (λ bytes. ReadsAs bytes source 0 0 it.reading)) (alone i new at ack.0 ack.1) it.reads;
    holds = it.holds;
  }
    where
      ack : (k : Option (List ℕ)) × (slice_get uploads i ≡ Some k) × IsAcknowledged P k source 0 count 0
      ack = are i source 0 count new 0 at

      it : IsAcknowledged P ack.0 source 0 count 0
      it = ack.2

  of_steps : (steps : List Step) → AllByRecursion (λ step. AreAcknowledged P (answered_in step) (answers_of step)) steps
      → AllByRecursion (λ step. AcknowledgeNoOther source count upload (answered_in step) (answers_of step)) steps → IsPrinted steps (Ack source 0 count new 0) → HoldsOfAll P upload
  of_steps [] are alone none = absurd none
  of_steps (step ∷ steps) are alone (inl here) =
      of_one (answered_in step) (answers_of step) are.0 alone.0 here.0
      (slice_get-get_or (answers_of step) here.0 (Ack source 0 count new 0) here.1 ∙ ap (λ (a : Answer). Some a) here.2)
  of_steps (step ∷ steps) are alone (inr behind) = of_steps steps are.1 alone.1 behind

pub deletes_safely : (b c : Between) (steps : List Step) → Keeps b steps c → (upload lines : List ℕ) → MayDelete upload lines steps
    → HoldsOfAll (IsInOne (journals c)) upload
deletes_safely b c steps keeps upload lines may =
    let a : AcknowledgeAll upload lines = may.acknowledge in
    of_steps (IsInOne (journals c)) upload a.source a.count a.new steps keeps.acknowledged may.alone
    (may.printed (Ack a.source 0 a.count a.new 0) a.lawful a.line)

acknowledges : (upload lines : List ℕ) (old new : Option (List ℕ)) (t : TellsOfUpload upload (Some lines) Success old new)
    → HasAnswer (AcknowledgesAll t.sent) (lines_of t.text)
acknowledges upload lines old new t = search rules

pub tells_all : (upload lines : List ℕ) (old new : Option (List ℕ)) → TellsOfUpload upload (Some lines) Success old new → AcknowledgeAll upload lines
tells_all upload lines old new t = by_answer has.answer has.lawful has.is has.line
  where
    has : HasAnswer (AcknowledgesAll t.sent) (lines_of lines)
    has = subst (λ (text : List ℕ). HasAnswer (AcknowledgesAll t.sent) (lines_of text)) t.came (acknowledges upload lines old new t)

    by_answer : (answer : Answer) → IsAnswer answer → AcknowledgesAll t.sent answer → Contains (lines_of lines) (answer_text answer)
        → AcknowledgeAll upload lines
    by_answer (No of code place) lawful all line = absurd all
    by_answer (Ack source start count new left) lawful all line =
        let make : Id128 → ℕ → ℕ → ℕ → Answer = λ s f n l. Ack s f n new l in
        let same : Ack source start count new left ≡ Ack t.sent.source 0 t.sent.count new 0 =
        ap (λ (s : Id128). make s start count left) all.own
        ∙ (ap (λ (n : ℕ). make t.sent.source n count left) all.begun
        ∙ (ap (λ (n : ℕ). make t.sent.source 0 n left) all.all ∙ ap (λ (n : ℕ). make t.sent.source 0 t.sent.count n) all.ended)) in
        record {
          source = t.sent.source;
          count = t.sent.count;
          new = new;
          body = t.brings.0;
          has = t.brings.1;
          lawful = subst IsAnswer same lawful;
          line = subst (λ (a : Answer). Contains (lines_of lines) (answer_text a)) same line;
        }
