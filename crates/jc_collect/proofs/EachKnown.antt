-- What follows of deliveries one after the other.
use Rattle.std.proofs.Common.{◌≡◌, ℕ, zero, suc, List, [], ◌∷◌, ◌++◌, Option, Some, length, map, refl, sym, ap, subst, ◌∙◌, inl, inr}
use Rattle.std.specs.List.{All, slice_get}
use Rattle.std.proofs.lemmas.List.Elements.{All-contains_itself}
use Rattle.jc_base.specs.declared.id.Id128.{Id128}
use Rattle.jc_base.specs.declared.limits.Limits.{Limits}
use Rattle.jc_base.specs.Journal.{Journal}
use Rattle.jc_base.specs.LogEntry.{LogEntry}
use Rattle.jc_base.specs.Reading.{Reading}
use Rattle.jc_keeper.specs.Agree.{IsStored}
use Rattle.jc_upload.specs.declared.answer.Answer.{Answer}
use Rattle.jc_upload.specs.declared.answer.Answer.TheVariants.{Ack, No}
use Rattle.jc_collect.specs.Each.{CollectsEach, HasAcknowledged, IsKnownChain, KeepsCollected, KeepsEach, NoneAcknowledged, StoresEach}
use Rattle.jc_collect.specs.Position.{LeavesUnknown}
use Rattle.jc_collect.proofs.Each.{unknown_of}
use Rattle.jc_collect.proofs.Lists.{none_not_some, some_same}
use Rattle.jc_collect.proofs.OneMore.{SaysOnce}

pub known_chain_of : (limits : Limits) (uploads : List (List ℕ)) (start last : Journal) (answers : List Answer)
    → CollectsEach limits (map (λ u. Some u) uploads) start answers last → IsKnownChain limits uploads start answers last
known_chain_of limits [] start last [] same = record { turns = []; uploads_are = refl; answers_are = refl; chain = tt; last_is = sym same }
known_chain_of limits [] start last (answer ∷ answers) none = absurd none
known_chain_of limits (upload ∷ uploads) start last [] none = absurd none
known_chain_of limits (upload ∷ uploads) start last (answer ∷ answers) (after, position, more) =
    let rest = known_chain_of limits uploads after last answers more in
    record {
      turns = record { upload = upload; answer = answer; after = after } ∷ rest.turns;
      uploads_are = ap (λ (us : List (List ℕ)). upload ∷ us) rest.uploads_are;
      answers_are = ap (λ (l : List Answer). answer ∷ l) rest.answers_are;
      chain = (position, rest.chain);
      last_is = rest.last_is;
    }

pub stores_of : SaysOnce → (limits : Limits) (known : List (Option (List ℕ))) (start last : Journal) (answers : List Answer)
    → CollectsEach limits known start answers last → StoresEach start answers last
stores_of once limits [] start last [] same = same
stores_of once limits [] start last (answer ∷ answers) none = absurd none
stores_of once limits (k ∷ known) start last [] none = absurd none
stores_of once limits (k ∷ known) start last (answer ∷ answers) (after, position, more) =
    (after, unknown_of once limits k start answer after position, stores_of once limits known after last answers more)

pub keeps_of : SaysOnce → (limits : Limits) (known : List (Option (List ℕ))) (start found : Journal) (answers : List Answer)
    → KeepsCollected limits known start answers found → KeepsEach start answers found
keeps_of once limits known start found answers keeps = record {
  front = keeps.front;
  behind = keeps.behind;
  whole = keeps.whole;
  last = keeps.last;
  stored = stores_of once limits keeps.ahead start keeps.last keeps.front keeps.collected;
  none = keeps.none;
  would = keeps.more.would;
  begin = keeps.more.begin;
  more = stores_of once limits keeps.more.ahead keeps.last found keeps.more.would keeps.more.collected;
}

kept_one : (start : Journal) (answer : Answer) (after : Journal) → LeavesUnknown start answer after → (e : LogEntry) → IsStored start e → IsStored after e
kept_one start (Ack source from count new left) after h e s = (h.1.has e).1 (inl s)
kept_one start (No of code place) after h e s = subst (λ (m : Journal). IsStored m e) (sym h) s

kept_each : (start : Journal) (answers : List Answer) (last : Journal) → StoresEach start answers last → (e : LogEntry) → IsStored start e → IsStored last e
kept_each start [] last same e s = subst (λ (m : Journal). IsStored m e) (sym same) s
kept_each start (answer ∷ answers) last (after, leaves, more) e s = kept_each after answers last more e (kept_one start answer after leaves e s)

abbrev count_of : Answer → ℕ
count_of (Ack source from count new left) = count
count_of (No of code place) = 0

acks_each : (start : Journal) (answers : List Answer) (last : Journal) → StoresEach start answers last
    → (i : ℕ) (source : Id128) (from count new left : ℕ) → slice_get answers i ≡ Some (Ack source from count new left)
    → (reading : Reading) × (count ≡ length reading.entries) × All (IsStored last) reading.entries
acks_each start [] last same i source from count new left h = absurd (none_not_some _ h)
acks_each start (Ack s f c n l ∷ answers) last (after, leaves, more) zero source from count new left h = (
  leaves.0,
  sym (ap (λ (a : Answer). count_of a) (some_same (Ack s f c n l) (Ack source from count new left) h)) ∙ leaves.1.counted,
  λ k d within. kept_each after answers last more _ ((leaves.1.has _).1 (inr (All-contains_itself leaves.0.entries k d within))),
)
acks_each start (No of code place ∷ answers) last stored zero source from count new left h =
    absurd (never (some_same (No of code place) (Ack source from count new left) h))
  where
    never : ¬ (No of code place ≡ Ack source from count new left)
    never e = cc
acks_each start (answer ∷ answers) last (after, leaves, more) (suc i) source from count new left h =
    acks_each after answers last more i source from count new left h

pub acks_of : (start last : Journal) (answers : List Answer) → StoresEach start answers last → HasAcknowledged start answers last
acks_of start last answers stored = record { kept = kept_each start answers last stored; acknowledged = acks_each start answers last stored }

-- ---- what a crash leaves

none_here : (answers : List Answer) → NoneAcknowledged answers → (i : ℕ) (source : Id128) (from count new left : ℕ)
    → ¬ (slice_get answers i ≡ Some (Ack source from count new left))
none_here [] none i source from count new left at = none_not_some _ at
none_here (Ack s f n m l ∷ answers) none i source from count new left at = none
none_here (No of code place ∷ answers) none zero source from count new left at =
    let is : No of code place ≡ Ack source from count new left = some_same _ _ at in
    cc
none_here (No of code place ∷ answers) none (suc i) source from count new left at = none_here answers none i source from count new left at

in_front : (front behind : List Answer) → NoneAcknowledged behind → (i : ℕ) (source : Id128) (from count new left : ℕ)
    → slice_get (front ++ behind) i ≡ Some (Ack source from count new left) → slice_get front i ≡ Some (Ack source from count new left)
in_front [] behind none i source from count new left at = absurd (none_here behind none i source from count new left at)
in_front (a ∷ front) behind none zero source from count new left at = at
in_front (a ∷ front) behind none (suc i) source from count new left at = in_front front behind none i source from count new left at

pub acks_found : (start found : Journal) (answers : List Answer) → KeepsEach start answers found → HasAcknowledged start answers found
acks_found start found answers keeps =
    let first = acks_of start keeps.last keeps.front keeps.stored in
    let has = kept_each keeps.last keeps.would found keeps.more in
    record {
      kept = λ e s. has e (first.kept e s);
      acknowledged = λ i source from count new left at.
          let a = first.acknowledged i source from count new left (in_front keeps.front keeps.behind keeps.none i source from count new left
          (subst (λ (l : List Answer). slice_get l i ≡ Some (Ack source from count new left)) keeps.whole at)) in
          (a.0, a.1, λ k d within. has _ (a.2 k d within));
    }
