-- Deliveries one after the other, whether their bytes are known or not.
use Rattle.std.proofs.Common.{◌≡◌, ℕ, zero, suc, ◌+◌, ◌≤◌, IsTrue, List, [], ◌∷◌, ◌++◌, Option, Some, None, length, map, take, refl, sym, ap, subst, ◌∙◌, inr, arith}
use Rattle.std.specs.List.{slice_get}
use Rattle.std.specs.FinMap.{len}
use Rattle.std.specs.Io.KnownBytes.{Appends}
use Rattle.std.proofs.KnownBytes.{Appends-nil, Appends-trans}
use Rattle.std.proofs.lemmas.List.{length-map, take_all}
use Rattle.std.proofs.lemmas.Option.{slice_get_within}
use Rattle.jc_base.specs.declared.limits.Limits.{Limits}
use Rattle.jc_base.specs.Device.{WentOut}
use Rattle.jc_base.specs.Journal.{Journal}
use Rattle.jc_base.specs.Reading.{Reading}
use Rattle.jc_keeper.specs.Agree.{HasBoth}
use Rattle.jc_keeper.specs.Crash.{AddsOnly}
use Rattle.jc_upload.specs.Answer.{IsAnswer, answer_text}
use Rattle.jc_upload.specs.declared.answer.Answer.{Answer}
use Rattle.jc_upload.specs.declared.answer.Answer.TheVariants.{Ack, No}
use Rattle.jc_collect.specs.Answer.{IsTaken}
use Rattle.jc_collect.specs.Chain.{is_acknowledged}
use Rattle.jc_collect.specs.Crash.{TakesUpload}
use Rattle.jc_collect.specs.Each.{Held, HoldsCollected, RanEach, StoppedEach}
use Rattle.jc_collect.specs.EachLaws.{collected_none, collected_one, collected_then}
use Rattle.jc_collect.specs.Position.{Collects, Joins, LeavesUnknown}
use Rattle.jc_collect.specs.Run.{lines_of_answers}
use Rattle.jc_collect.proofs.Lists.{some_same, none_not_some, length_more, take_more}
use Rattle.jc_collect.proofs.OneAnswer.{same_journal}
use Rattle.jc_collect.proofs.OneMore.{SaysOnce}
use Rattle.jc_collect.proofs.UnderWay.{lines_more}
use Rattle.jc_collect.proofs.Writing.{one_more}

-- ---- one delivery

-- What an upload with known bytes leaves, the unknown one leaves too.
pub unknown_of : SaysOnce → (limits : Limits) (known : Option (List ℕ)) (before : Journal) (answer : Answer) (after : Journal)
    → Collects limits known before answer after → LeavesUnknown before answer after
unknown_of once limits None before answer after h = h
unknown_of once limits (Some upload) before (No of code place) after h = h.leaves
unknown_of once limits (Some upload) before (Ack source start count new left) after h = taken h.answers h.leaves
  where
    taken : IsTaken limits upload before (source, start) count new left → Joins limits upload before after
        → LeavesUnknown before (Ack source start count new left) after
    taken t j =
        let same : j.reading ≡ t.reading = once limits upload j.reading t.reading j.says (inr (t.head, t.says)) in
        let has : HasBoth before t.reading.entries after = subst (λ (r : Reading). HasBoth before r.entries after) same j.has in
        let one : after ≡ t.grown.0 =
        same_journal after t.grown.0 (λ e. (λ h. (t.grown.1 e).1 ((has e).0 h), λ h. (has e).1 ((t.grown.1 e).0 h))) in (
          t.reading,
          record {
            ended = t.ended;
            agrees = t.agrees;
            has = has;
            counted = t.counted;
            grown = ap (λ (m : Journal). len m) one ∙ t.grown.2;
          },
        )

-- ---- a run

pub get_map : {X Y : Type 0} (f : X → Y) (xs : List X) (i : ℕ) (x : X) → slice_get xs i ≡ Some x → slice_get (map f xs) i ≡ Some (f x)
get_map f [] i x h = absurd (none_not_some x h)
get_map f (y ∷ ys) zero x h = ap (λ z. Some (f z)) (some_same y x h)
get_map f (y ∷ ys) (suc i) x h = get_map f ys i x h

pub ran_none : (limits : Limits) (now : Held) (written : Option (List ℕ)) → RanEach limits [] 0 now now written written
ran_none limits now written = record {
  wrote = record { answers = []; number = refl; lawful = λ i d within. absurd (omega (arith, within)); lines = Appends-nil written };
  holds = collected_none limits now;
}

module _ {D : Type 0} (known_of : D → Option (List ℕ)) (limits : Limits) (first : List D) where
  pub ran_all : (done : ℕ) (before now : Held) (written written_now : Option (List ℕ)) → done ≡ length first
      → RanEach limits (take done (map known_of first)) done before now written written_now
      → RanEach limits (map known_of first) (length (map known_of first)) before now written written_now
  ran_all done before now written written_now all ran =
      let size : length (map known_of first) ≡ length first = length-map first known_of in
      subst (λ (n : ℕ). RanEach limits (map known_of first) n before now written written_now) (all ∙ sym size)
      (subst (λ (ks : List (Option (List ℕ))). RanEach limits ks done before now written written_now)
      (take_all done (map known_of first) (omega (arith, all, size))) ran)

  module _ (done : ℕ) (present : List D) (was : D) (rest : (i : ℕ) → done ≤ i → slice_get present i ≡ slice_get first i)
      (at : slice_get present done ≡ Some was) (before mid now : Held) (written mid_written written_now : Option (List ℕ)) (answer : Answer)
      (lawful : IsAnswer answer)
      (way : RanEach limits (take done (map known_of first)) done before mid written mid_written)
      (earlier : mid.Sound → before.Sound) (later : now.Sound → mid.Sound)
      (position : now.Sound → Collects limits (known_of was) mid.journal answer now.journal)
      (crash : AddsOnly mid.may_leave now.may_leave (λ found. mid.Sound × TakesUpload limits (known_of was) mid.journal answer found))
      (acks : IsTrue (is_acknowledged answer) → now.Sound)
      (durable : IsTrue (is_acknowledged answer) → now.Sound → (found : Journal) → now.may_leave found → found ≡ now.journal) where
    said : slice_get (map known_of first) done ≡ Some (known_of was)
    said = get_map known_of first done was (sym (rest done (omega arith)) ∙ at)

    holds_more : HoldsCollected limits (take (done + 1) (map known_of first)) before now (way.wrote.answers ++ answer ∷ [])
    holds_more =
        subst (λ (ks : List (Option (List ℕ))). HoldsCollected limits ks before now (way.wrote.answers ++ answer ∷ []))
        (sym (take_more (map known_of first) done (known_of was) said))
        (collected_then limits (take done (map known_of first)) (known_of was ∷ []) before mid now way.wrote.answers (answer ∷ []) way.holds
        (collected_one limits (known_of was) mid now answer position crash acks later durable) earlier later)

    pub ran_more : Appends mid_written written_now (answer_text answer)
        → RanEach limits (take (done + 1) (map known_of first)) (done + 1) before now written written_now
    ran_more out = record {
      wrote = record {
        answers = way.wrote.answers ++ answer ∷ [];
        number = length_more way.wrote.answers answer ∙ ap (λ n. n + 1) way.wrote.number;
        lawful = one_more way.wrote.answers answer way.wrote.lawful lawful;
        lines = subst (λ (l : List ℕ). Appends written written_now l) (sym (lines_more way.wrote.answers answer))
            (Appends-trans written mid_written written_now (lines_of_answers way.wrote.answers) (answer_text answer) way.wrote.lines out);
      };
      holds = holds_more;
    }

    pub stopped_each : (bytes : ℕ) → WentOut mid_written written_now (answer_text answer) bytes
        → StoppedEach limits (map known_of first) before now written written_now done bytes
    stopped_each bytes out = record {
      inside = slice_get_within (map known_of first) done (known_of was) said;
      wrote = record {
        answers = way.wrote.answers;
        last = answer;
        number = way.wrote.number;
        lawful = one_more way.wrote.answers answer way.wrote.lawful lawful;
        within = out.within;
        lines = Appends-trans written mid_written written_now (lines_of_answers way.wrote.answers) (take bytes (answer_text answer))
            way.wrote.lines out.front;
      };
      holds = holds_more;
    }
