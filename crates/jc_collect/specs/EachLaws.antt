-- Uploads one after the other, of each of which the bytes are known or not. (own)
use Rattle.std.proofs.Common.{◌≡◌, ℕ, IsTrue, List, [], ◌∷◌, ◌++◌, Option, refl, sym, ap, subst, ◌∙◌, inl, inr, ⊎_elim, append_assoc}
use Rattle.std.proofs.lemmas.List.{append-nil}
use Rattle.jc_base.specs.declared.limits.Limits.{Limits}
use Rattle.jc_base.specs.Journal.{Journal}
use Rattle.jc_keeper.specs.Crash.{AddsOnly}
use Rattle.jc_upload.specs.declared.answer.Answer.{Answer}
use Rattle.jc_upload.specs.declared.answer.Answer.TheVariants.{Ack, No}
use Rattle.jc_collect.specs.Chain.{is_acknowledged}
use Rattle.jc_collect.specs.Crash.{TakesUpload}
use Rattle.jc_collect.specs.Each.{BeginWith, CollectsEach, Gathers, Held, HoldsCollected, KeepsCollected, MayAnswer, NoneAcknowledged}
use Rattle.jc_collect.specs.Position.{Collects}

none_both : (one other : List Answer) → NoneAcknowledged one → NoneAcknowledged other → NoneAcknowledged (one ++ other)
none_both [] other none also = also
none_both (Ack source from count new left ∷ one) other none also = absurd none
none_both (No of code place ∷ one) other none also = none_both one other none also

pub collects_then : (limits : Limits) (known others : List (Option (List ℕ))) (start mid last : Journal) (one more : List Answer)
    → CollectsEach limits known start one mid → CollectsEach limits others mid more last
    → CollectsEach limits (known ++ others) start (one ++ more) last
collects_then limits [] others start mid last [] more same rest = subst (λ (m : Journal). CollectsEach limits others m more last) same rest
collects_then limits [] others start mid last (a ∷ one) more none rest = absurd none
collects_then limits (k ∷ known) others start mid last [] more none rest = absurd none
collects_then limits (k ∷ known) others start mid last (a ∷ one) more (after, first, so) rest =
    (after, first, collects_then limits known others after mid last one more so rest)

-- ---- what may be answered

may_itself : (a : Answer) → MayAnswer a a
may_itself (Ack source start count new left) = tt
may_itself (No of code place) = inl refl

begin_more : (would answers more : List Answer) → BeginWith would answers → BeginWith would (answers ++ more)
begin_more [] answers more begin = tt
begin_more (w ∷ would) [] more begin = absurd begin
begin_more (w ∷ would) (a ∷ answers) more begin = (begin.0, begin_more would answers more begin.1)

begin_next : (answers : List Answer) (w a : Answer) → MayAnswer w a → BeginWith (answers ++ w ∷ []) (answers ++ a ∷ [])
begin_next [] w a may = (may, tt)
begin_next (x ∷ answers) w a may = (may_itself x, begin_next answers w a may)

begin_itself : (answers : List Answer) → BeginWith answers answers
begin_itself [] = tt
begin_itself (a ∷ answers) = (may_itself a, begin_itself answers)

-- ---- whole uploads that a crash leaves

module _ (limits : Limits) (known : List (Option (List ℕ))) (start : Journal) (answers : List Answer) where
  -- none of them
  pub gathers_none : (found : Journal) → found ≡ start → Gathers limits known start answers found
  gathers_none found same = record { ahead = []; others = known; are = refl; would = []; begin = tt; collected = same }

  pub gathers_all : (found : Journal) → CollectsEach limits known start answers found → Gathers limits known start answers found
  gathers_all found collected = record {
    ahead = known;
    others = [];
    are = sym (append-nil known);
    would = answers;
    begin = begin_itself answers;
    collected = collected;
  }

  -- of these and others behind them
  pub gathers_before : (behind : List (Option (List ℕ))) (more : List Answer) (found : Journal) → Gathers limits known start answers found
      → Gathers limits (known ++ behind) start (answers ++ more) found
  gathers_before behind more found so_far = record {
    ahead = so_far.ahead;
    others = so_far.others ++ behind;
    are = ap (λ (l : List (Option (List ℕ))). l ++ behind) so_far.are ∙ append_assoc so_far.ahead so_far.others behind;
    would = so_far.would;
    begin = begin_more so_far.would answers more so_far.begin;
    collected = so_far.collected;
  }

  -- all of the next one
  pub gathers_next : (u : Option (List ℕ)) (a : Answer) (mid found : Journal) → CollectsEach limits known start answers mid → TakesUpload limits u mid a found
      → Gathers limits (known ++ u ∷ []) start (answers ++ a ∷ []) found
  gathers_next u a mid found so_far took =
      let would = Ack took.source took.start took.count took.new took.left in
      record {
        ahead = known ++ u ∷ [];
        others = [];
        are = sym (append-nil (known ++ u ∷ []));
        would = answers ++ would ∷ [];
        begin = begin_next answers would a took.answered;
        collected = collects_then limits known (u ∷ []) start mid found answers (would ∷ []) so_far (found, took.collects, refl);
      }

  -- ... whether none of them is acknowledged
  pub kept_gathered : (found : Journal) → NoneAcknowledged answers → Gathers limits known start answers found → KeepsCollected limits known start answers found
  kept_gathered found none more =
      record { ahead = []; others = known; are = refl; front = []; behind = answers; whole = refl; last = start; collected = refl; none = none; more = more }

  -- ... or all are answered so
  pub kept_all : (found : Journal) → CollectsEach limits known start answers found → KeepsCollected limits known start answers found
  kept_all found collected = record {
    ahead = known;
    others = [];
    are = sym (append-nil known);
    front = answers;
    behind = [];
    whole = sym (append-nil answers);
    last = found;
    collected = collected;
    none = tt;
    more = record { ahead = []; others = []; are = refl; would = []; begin = tt; collected = refl };
  }

module _ (limits : Limits) where
  kept_behind : (known others : List (Option (List ℕ))) (start : Journal) (one more : List Answer) (found : Journal)
      → KeepsCollected limits known start one found → NoneAcknowledged more → KeepsCollected limits (known ++ others) start (one ++ more) found
  kept_behind known others start one more found keeps none = record {
    ahead = keeps.ahead;
    others = keeps.others ++ others;
    are = ap (λ (l : List (Option (List ℕ))). l ++ others) keeps.are ∙ append_assoc keeps.ahead keeps.others others;
    front = keeps.front;
    behind = keeps.behind ++ more;
    whole = ap (λ (l : List Answer). l ++ more) keeps.whole ∙ append_assoc keeps.front keeps.behind more;
    last = keeps.last;
    collected = keeps.collected;
    none = none_both keeps.behind more keeps.none none;
    more = gathers_before limits keeps.others keeps.last keeps.behind others more found keeps.more;
  }

  kept_before : (known others : List (Option (List ℕ))) (start mid : Journal) (one more : List Answer) (found : Journal)
      → CollectsEach limits known start one mid → KeepsCollected limits others mid more found
      → KeepsCollected limits (known ++ others) start (one ++ more) found
  kept_before known others start mid one more found first keeps = record {
    ahead = known ++ keeps.ahead;
    others = keeps.others;
    are = ap (λ (l : List (Option (List ℕ))). known ++ l) keeps.are ∙ sym (append_assoc known keeps.ahead keeps.others);
    front = one ++ keeps.front;
    behind = keeps.behind;
    whole = ap (λ (l : List Answer). one ++ l) keeps.whole ∙ sym (append_assoc one keeps.front keeps.behind);
    last = keeps.last;
    collected = collects_then limits known keeps.ahead start mid keeps.last one keeps.front first keeps.collected;
    none = keeps.none;
    more = keeps.more;
  }

  -- ---- over a keeper

  pub collected_none : (now : Held) → HoldsCollected limits [] now now []
  collected_none now = record { collected = λ sound. refl; found = λ left may. inl (may, tt) }

  -- none of these acknowledges, and the keeper is as it was
  pub collected_refused : (known : List (Option (List ℕ))) (now : Held) (answers : List Answer) → CollectsEach limits known now.journal answers now.journal
      → NoneAcknowledged answers → HoldsCollected limits known now now answers
  collected_refused known now answers each none = record { collected = λ sound. each; found = λ left may. inl (may, none) }

  pub collected_then : (known others : List (Option (List ℕ))) (before mid now : Held) (one more : List Answer)
      → HoldsCollected limits known before mid one → HoldsCollected limits others mid now more
      → (mid.Sound → before.Sound) → (now.Sound → mid.Sound) → HoldsCollected limits (known ++ others) before now (one ++ more)
  collected_then known others before mid now one more first then earlier later = record {
    collected = λ sound.
        collects_then limits known others before.journal mid.journal now.journal one more (first.collected (later sound)) (then.collected sound);
    found = λ left may.
        ⊎_elim
        (λ was. ⊎_elim (λ at_first. inl (at_first.0, none_both one more at_first.1 was.1))
        (λ kept. inr (kept.0, kept_behind known others before.journal one more left kept.1 was.1)) (first.found left was.0))
        (λ kept. inr (earlier kept.0, kept_before known others before.journal mid.journal one more left (first.collected kept.0) kept.1))
        (then.found left may);
  }

-- ---- one upload

pub collected_one : (limits : Limits) (known : Option (List ℕ)) (before now : Held) (answer : Answer)
    → (now.Sound → Collects limits known before.journal answer now.journal)
    → AddsOnly before.may_leave now.may_leave (λ found. before.Sound × TakesUpload limits known before.journal answer found)
    → (IsTrue (is_acknowledged answer) → now.Sound) → (now.Sound → before.Sound)
    → (IsTrue (is_acknowledged answer) → now.Sound → (found : Journal) → now.may_leave found → found ≡ now.journal)
    → HoldsCollected limits (known ∷ []) before now (answer ∷ [])
collected_one limits known before now (Ack source start count new left) position crash acks earlier durable =
    let sound : now.Sound = acks refl in
    let collected : CollectsEach limits (known ∷ []) before.journal (Ack source start count new left ∷ []) now.journal =
    (now.journal, position sound, refl) in
    record {
      collected = λ _. collected;
      found = λ found may. inr (
        earlier sound,
        subst (KeepsCollected limits (known ∷ []) before.journal (Ack source start count new left ∷ [])) (sym (durable refl sound found may))
            (kept_all limits (known ∷ []) before.journal (Ack source start count new left ∷ []) now.journal collected),
      );
    }
collected_one limits known before now (No of code place) position crash acks earlier durable = record {
  collected = λ sound. (now.journal, position sound, refl);
  found = λ found may. ⊎_elim (λ was. inl (was, tt))
      (λ added. inr (
        added.0,
        kept_gathered limits (known ∷ []) before.journal (No of code place ∷ []) found tt
            (gathers_next limits [] before.journal [] known (No of code place) before.journal found refl added.1),
      ))
      (crash found may);
}
