-- Uploads that were taken up one after the other are stored together, or can't be.
use Rattle.std.proofs.Common.{◌≡◌, ◌⊎◌, ◌+◌, ◌<◌, ◌≤◌, ℕ, zero, suc, IsTrue, List, [], ◌∷◌, ◌++◌, Option, Some, None, Result, Err, drop, get_or, length, map, take, refl, sym, ap, subst, ◌∙◌, inl, inr, ⊎_elim, arith}
use Rattle.std.specs.Prelude.{IsOk, ⊤}
use Rattle.std.specs.List.{slice_get}
use Rattle.std.proofs.lemmas.List.{append-nil, drop_all, length-map, take_all}
use Rattle.jc_base.specs.declared.fault.Code.{Code}
use Rattle.jc_base.specs.declared.fault.Code.TheVariants.{Conflict as ConflictCode, NotTheOwner as NotTheOwnerCode, StoreFailed as StoreFailedCode}
use Rattle.jc_base.specs.Device.{Rose}
use Rattle.jc_base.specs.declared.limits.Limits.{Limits}
use Rattle.jc_base.specs.Journal.{Journal}
use Rattle.jc_keeper.specs.declared.keeper.KeepStop.{KeepStop}
use Rattle.jc_keeper.specs.declared.keeper.KeepStop.TheVariants.{ReadFailed, StoreFailed}
use Rattle.jc_keeper.specs.declared.keeper.Keeper as keepers
use Rattle.jc_keeper.specs.BroughtLaws.{brought_none, whose_stays}
use Rattle.jc_keeper.specs.Crash.{AddsOnly}
use Rattle.jc_keeper.specs.Keeping.{StoreHasCause}
use Rattle.jc_keeper.specs.Whose.{StayWhose}
use Rattle.jc_upload.specs.declared.answer.Answer.{Answer}
use Rattle.jc_upload.specs.declared.answer.Answer.TheVariants.{Ack, No}
use Rattle.jc_collect.specs.Chain.{is_acknowledged}
use Rattle.jc_collect.specs.Crash.{MayBeKept}
use Rattle.jc_collect.specs.Each.{BeginWith, CollectsEach, Gathers, Held, HoldsCollected, KeepsCollected, MayAnswer, NoneAcknowledged, held}
use Rattle.jc_collect.specs.EachLaws.{gathers_all, kept_all, kept_gathered}
use Rattle.jc_collect.specs.Position.{HasCode}
use Rattle.jc_collect.specs.Run.{AreCaused}
use Rattle.jc_collect.specs.Settled.{withdrawn}
use Rattle.jc_collect.specs.Taken.{Brings}
use Rattle.jc_collect.specs.Together.{HasAnsweredAll, HasCollectedAll, HasSettled}
use Rattle.jc_collect.proofs.CollectedMore.{rose_earlier, rose_later}
use Rattle.jc_collect.proofs.Lists.{none_not_some, some_same}
use Rattle.jc_collect.proofs.Settling.{each_refused, is_unstored, never_conflict, never_owned, store_failed}

-- ---- what may be answered

may_withdrawn : (stop : KeepStop) → ¬ (stop ≡ ReadFailed) → (w a : Answer) → MayAnswer w a → MayAnswer w (withdrawn stop a)
may_withdrawn stop other (Ack source start count new left) (Ack s f c n l) may = is_unstored stop (Some (s, f)) 0 other
may_withdrawn stop other (Ack source start count new left) (No of code place) may =
    each_refused MayBeKept stop of code place (λ conflict. is_unstored stop of 0 other) (λ _. may)
may_withdrawn stop other (No of code place) a (inl is) = subst (λ (x : Answer). MayAnswer (No of code place) (withdrawn stop x)) (sym is)
    (each_refused (MayAnswer (No of code place)) stop of code place (λ conflict. inr (conflict, is_unstored stop of 0 other)) (λ _. inl refl))
may_withdrawn stop other (No of code place) (Ack s f c n l) (inr unstored) = absurd unstored.1
may_withdrawn stop other (No of code place) (No o c p) (inr unstored) =
    each_refused (MayAnswer (No of code place)) stop o c p (λ conflict. inr (unstored.0, is_unstored stop o 0 other)) (λ _. inr unstored)

begin_withdrawn : (stop : KeepStop) → ¬ (stop ≡ ReadFailed) → (would answers : List Answer) → BeginWith would answers → BeginWith would (map (withdrawn stop) answers)
begin_withdrawn stop other [] answers begin = tt
begin_withdrawn stop other (w ∷ would) [] begin = absurd begin
begin_withdrawn stop other (w ∷ would) (a ∷ answers) begin = (may_withdrawn stop other w a begin.0, begin_withdrawn stop other would answers begin.1)

none_withdrawn : (stop : KeepStop) (answers : List Answer) → NoneAcknowledged (map (withdrawn stop) answers)
none_withdrawn stop [] = tt
none_withdrawn stop (Ack source start count new left ∷ answers) = none_withdrawn stop answers
none_withdrawn stop (No of code place ∷ answers) = each_refused (λ (a : Answer). NoneAcknowledged (a ∷ map (withdrawn stop) answers)) stop of code place
    (λ conflict. none_withdrawn stop answers)
    (λ other. none_withdrawn stop answers)

gathers_withdrawn : (limits : Limits) (known : List (Option (List ℕ))) (start : Journal) (answers : List Answer) (stop : KeepStop) → ¬ (stop ≡ ReadFailed) → (found : Journal)
    → Gathers limits known start answers found → Gathers limits known start (map (withdrawn stop) answers) found
gathers_withdrawn limits known start answers stop other found so_far = record {
  ahead = so_far.ahead;
  others = so_far.others;
  are = so_far.are;
  would = so_far.would;
  begin = begin_withdrawn stop other so_far.would answers so_far.begin;
  collected = so_far.collected;
}

-- so many answers, of which none acknowledges
pub none_more : (answers : List Answer) (i : ℕ) (a : Answer) → slice_get answers i ≡ Some a → ¬ IsTrue (is_acknowledged a) → NoneAcknowledged (take i answers)
    → NoneAcknowledged (take (i + 1) answers)
none_more [] i a at other none = absurd (none_not_some a at)
none_more (Ack source start count new left ∷ answers) zero a at other none =
    absurd (other (subst (λ (y : Answer). IsTrue (is_acknowledged y)) (some_same (Ack source start count new left) a at) refl))
none_more (No of code place ∷ answers) zero a at other none = tt
none_more (Ack source start count new left ∷ answers) (suc i) a at other none = absurd none
none_more (No of code place ∷ answers) (suc i) a at other none =
    let on : suc i + 1 ≡ suc (i + 1) = omega arith in
    subst (λ (n : ℕ). NoneAcknowledged (take n (No of code place ∷ answers))) (sym on) (none_more answers i a at other none)

pub any_at : (answers : List Answer) (i : ℕ) (a : Answer) → slice_get answers i ≡ Some a → IsTrue (is_acknowledged a) → ¬ NoneAcknowledged answers
any_at [] i a at acks none = none_not_some a at
any_at (Ack source start count new left ∷ answers) i a at acks none = none
any_at (No of code place ∷ answers) zero a at acks none =
    let other : IsTrue (is_acknowledged (No of code place)) = subst (λ (y : Answer). IsTrue (is_acknowledged y)) (sym (some_same (No of code place) a at)) acks in
    cc
any_at (No of code place ∷ answers) (suc i) a at acks none = any_at answers i a at acks none

pub get_again : {X : Type 0} (xs : List X) (i : ℕ) (d e : X) → i < length xs → get_or xs i d ≡ get_or xs i e
get_again [] i d e lt = absurd (omega (arith, lt))
get_again (x ∷ xs) zero d e lt = refl
get_again (x ∷ xs) (suc i) d e lt = get_again xs i d e (omega (arith, lt))

pub none_all : (answers : List Answer) (i : ℕ) → length answers ≤ i → NoneAcknowledged (take i answers) → NoneAcknowledged answers
none_all answers i all none = subst NoneAcknowledged (take_all i answers all) none

-- what was changed in a part of the room is all of it
pub all_changed : {X : Type 0} (f : X → X) (items changed : List X) (len : ℕ) → changed ≡ map f items → len ≡ length items
    → take len (changed ++ drop (length changed) items) ≡ map f items
all_changed f items changed len is whole =
    let size : length changed ≡ length items = ap length is ∙ length-map items f in
    ap (λ l. take len (changed ++ l)) (drop_all (length changed) items (omega (arith, size)))
    ∙ ap (take len) (append-nil changed) ∙ take_all len changed (omega (arith, size, whole)) ∙ is

pub over_all : {X : Type 0} (f : X → X) (items now : List X) (i : ℕ) → length items ≤ i → now ≡ map f (take i items) ++ drop i items → now ≡ map f items
over_all f items now i all is =
    is ∙ ap (λ l. map f l ++ drop i items) (take_all i items all) ∙ ap (λ l. map f items ++ l) (drop_all i items all) ∙ append-nil (map f items)

-- ---- causes of failures

caused_by_each : (code : Code) (f : Answer → Answer) (answers : List Answer) (P Q : Type 0) → ((y : Answer) → HasCode (f y) code → (HasCode y code → P) → Q)
    → AreCaused code answers (λ _. P) → AreCaused code (map f answers) (λ _. Q)
caused_by_each code f [] P Q each so_far i x at has = absurd (none_not_some x at)
caused_by_each code f (y ∷ ys) P Q each so_far zero x at has = each y (subst (λ (z : Answer). HasCode z code) (sym (some_same (f y) x at)) has) (so_far zero y refl)
caused_by_each code f (y ∷ ys) P Q each so_far (suc i) x at has = caused_by_each code f ys P Q each (λ j z there of. so_far (suc j) z there of) i x at has

stored_or : (stop : KeepStop) (y : Answer) → HasCode (withdrawn stop y) StoreFailedCode → HasCode y StoreFailedCode ⊎ (stop ≡ StoreFailed)
stored_or stop (Ack source start count new left) code = inr (store_failed stop code)
stored_or stop (No of number place) code = each_refused (λ (a : Answer). HasCode a StoreFailedCode → HasCode (No of number place) StoreFailedCode ⊎ (stop ≡ StoreFailed)) stop of number place
    (λ conflict found. inr (store_failed stop found)) (λ other found. inl found) code

-- ---- over a keeper

module _ {K : Type 0} (k : keepers.Ghosts K) where
  -- none is acknowledged, so the keeper doesn't settle
  all_unsettled : (limits : Limits) (known : List (Option (List ℕ))) (old new : K) (answers : List Answer) → NoneAcknowledged answers
      → HasCollectedAll k limits known old new answers → HasAnsweredAll k limits known old new answers
  all_unsettled limits known old new answers none so_far = record {
    was_sound = so_far.was_sound;
    was_clean = so_far.was_clean;
    stays_made = so_far.stays_made;
    settled = λ was. so_far.settled was none;
    holds = λ is is_made. record {
      collected = λ late. so_far.collected late is_made;
      found = λ left may. ⊎_elim
          (λ was. inl (was, none))
          (λ gathered. inr (gathered.0, kept_gathered limits known (k.journal old) answers left none gathered.1))
          (so_far.found is is_made left may);
    };
    recovers = so_far.recovers;
    owner = so_far.owner;
    stores = so_far.stores;
  }

  pub settled_none : (keeper : K) (answers : List Answer) → NoneAcknowledged answers → HasSettled k keeper keeper answers answers
  settled_none keeper answers none = record {
    stopped = None;
    given_is = refl;
    conflicts = λ i a at has. refl;
    stored = λ is. refl;
    was_sound = λ is. is;
    stays_made = λ is. is;
    same = λ is is_made. refl;
    unless = λ none. refl;
    brought = brought_none k.brings keeper;
    unclaimed = λ is is_made. whose_stays (k.whose keeper);
    all = λ limits known first so_far. all_unsettled limits known first keeper answers none so_far;
  }

  module _ {T : Type 0} (mid new : K) (answers : List Answer) {result : Result T KeepStop}
      (settled : k.settled new) (same : k.made mid → k.sound new → k.journal new ≡ k.journal mid) (before : k.sound new → k.sound mid) (clean : k.clean new → k.clean mid)
      (crash : k.clean new → k.made mid → AddsOnly (k.may_leave mid) (k.may_leave new) (λ found. k.sound mid × (found ≡ k.journal mid)))
      (recovers : k.clean new → k.made mid → k.leaves_journals mid → k.leaves_journals new) (made : k.made mid → k.made new)
      (store : StoreHasCause (k.failures mid) (k.failures new) result) (brought : Brings k mid new)
      (unclaimed : k.sound new → k.made mid → StayWhose (k.whose new) (k.whose mid)) (unless : NoneAcknowledged answers → new ≡ mid)
    where
      module _ (limits : Limits) (known : List (Option (List ℕ))) (old : K) (so_far : HasCollectedAll k limits known old mid answers) where
        abbrev first : Held
        first = held (k.journal old) (k.sound old) (k.may_leave old)

        abbrev now : Held
        now = held (k.journal new) (k.sound new) (k.may_leave new)

        all_collected : k.sound new → k.made old → CollectsEach limits known (k.journal old) answers (k.journal new)
        all_collected is is_made = subst (λ (m : Journal). CollectsEach limits known (k.journal old) answers m) (sym (same (so_far.stays_made is_made) is))
            (so_far.collected (before is) is_made)

        all_gathered : k.clean new → k.made old → (left : Journal) → k.may_leave new left
            → k.may_leave old left ⊎ (k.sound old × Gathers limits known (k.journal old) answers left)
        all_gathered is is_made left may = ⊎_elim
            (λ was. so_far.found (clean is) is_made left was)
            (λ added. inr (
              so_far.was_sound added.0,
              subst (Gathers limits known (k.journal old) answers) (sym added.1)
                  (gathers_all limits known (k.journal old) answers (k.journal mid) (so_far.collected added.0 is_made)),
            ))
            (crash is (so_far.stays_made is_made) left may)

        -- they are stored
        holds_ok : (durable : (found : Journal) → k.sound new → k.made new → k.settled new → k.may_leave new found → found ≡ k.journal new)
            → (k.sound new ⊎ (k.at_once × (k.sound mid → k.sound new))) → k.clean new → k.made old → HoldsCollected limits known first now answers
        holds_ok durable stores is is_made = record {
          collected = λ late. all_collected late is_made;
          found = λ left may. ⊎_elim
              (λ late. inr (
                so_far.was_sound (before late),
                subst (KeepsCollected limits known (k.journal old) answers)
                    (sym (durable left late (made (so_far.stays_made is_made)) settled may))
                    (kept_all limits known (k.journal old) answers (k.journal new) (all_collected late is_made)),
              ))
              (λ once. at_once once.0 left may)
              stores;
        }
          where
            at_once : k.at_once → (left : Journal) → k.may_leave new left
                → (k.may_leave old left × NoneAcknowledged answers) ⊎ (k.sound old × KeepsCollected limits known (k.journal old) answers left)
            at_once once left may = ⊎_elim
                (λ was. (so_far.at_once once (clean is) is_made).found left was)
                (λ added. inr (
                  so_far.was_sound added.0,
                  subst (KeepsCollected limits known (k.journal old) answers) (sym added.1)
                      (kept_all limits known (k.journal old) answers (k.journal mid) (so_far.collected added.0 is_made)),
                ))
                (crash is (so_far.stays_made is_made) left may)

        all_stored : (durable : (found : Journal) → k.sound new → k.made new → k.settled new → k.may_leave new found → found ≡ k.journal new)
            → (k.clean new → k.made mid → IsOk result → k.sound new ⊎ (k.at_once × (k.sound mid → k.sound new))) → IsOk result
            → HasAnsweredAll k limits known old new answers
        all_stored durable stores ok = record {
          was_sound = λ is. so_far.was_sound (before is);
          was_clean = λ is. so_far.was_clean (clean is);
          stays_made = λ is. made (so_far.stays_made is);
          settled = λ was. settled;
          holds = λ is is_made. holds_ok durable (stores is (so_far.stays_made is_made) ok) is is_made;
          recovers = λ is is_made leaves. recovers is (so_far.stays_made is_made) (so_far.recovers (clean is) is_made leaves);
          owner = so_far.owner;
          stores = λ i a at has. rose_later (k.failures old) (k.failures mid) (k.failures new) (so_far.stores i a at has) store.never_falls;
        }

        -- they aren't
        all_withdrawn : (stop : KeepStop) → result ≡ Err stop → ¬ (stop ≡ ReadFailed) → (k.sound new → ⊥)
            → HasAnsweredAll k limits known old new (map (withdrawn stop) answers)
        all_withdrawn stop failed other shut = record {
          was_sound = λ is. absurd (shut is);
          was_clean = λ is. so_far.was_clean (clean is);
          stays_made = λ is. made (so_far.stays_made is);
          settled = λ was. settled;
          holds = λ is is_made. record {
            collected = λ late. absurd (shut late);
            found = λ left may. ⊎_elim
                (λ was. inl (was, none_withdrawn stop answers))
                (λ gathered. inr (
                  gathered.0,
                  kept_gathered limits known (k.journal old) (map (withdrawn stop) answers) left (none_withdrawn stop answers)
                      (gathers_withdrawn limits known (k.journal old) answers stop other left gathered.1),
                ))
                (all_gathered is is_made left may);
          };
          recovers = λ is is_made leaves. recovers is (so_far.stays_made is_made) (so_far.recovers (clean is) is_made leaves);
          owner = caused_by_each NotTheOwnerCode (withdrawn stop) answers k.has_owners k.has_owners (λ y has given. given (never_owned stop y has)) so_far.owner;
          stores = caused_by_each StoreFailedCode (withdrawn stop) answers (Rose (k.failures old) (k.failures mid)) (Rose (k.failures old) (k.failures new))
              (λ y has given. ⊎_elim
              (λ of. rose_later (k.failures old) (k.failures mid) (k.failures new) (given of) store.never_falls)
              (λ is. rose_earlier (k.failures old) (k.failures mid) (k.failures new) so_far.never_falls (store.failed (failed ∙ ap Err is)))
              (stored_or stop y has))
              so_far.stores;
        }

      pub settled_ok : (durable : (found : Journal) → k.sound new → k.made new → k.settled new → k.may_leave new found → found ≡ k.journal new)
          → (k.clean new → k.made mid → IsOk result → k.sound new ⊎ (k.at_once × (k.sound mid → k.sound new))) → IsOk result
          → HasSettled k mid new answers answers
      settled_ok durable stores ok = record {
        stopped = None;
        given_is = refl;
        conflicts = λ i a at has. refl;
        stored = λ is. refl;
        was_sound = before;
        stays_made = made;
        same = same;
        unless = unless;
        brought = brought;
        unclaimed = unclaimed;
        all = λ limits known first so_far. all_stored limits known first so_far durable stores ok;
      }

      pub settled_not : (stop : KeepStop) (given : List Answer) → given ≡ map (withdrawn stop) answers → result ≡ Err stop → ¬ (stop ≡ ReadFailed) → (k.sound new → ⊥)
          → HasSettled k mid new answers given
      settled_not stop given is failed other shut = record {
        stopped = Some stop;
        given_is = is;
        conflicts = subst (λ (l : List Answer). AreCaused ConflictCode l (λ _. Some stop ≡ None)) (sym is)
            (caused_by_each ConflictCode (withdrawn stop) answers ⊤ (Some stop ≡ None) (λ y has was. absurd (never_conflict stop y has)) (λ i a at has. tt));
        stored = λ late. absurd (shut late);
        was_sound = before;
        stays_made = made;
        same = same;
        unless = unless;
        brought = brought;
        unclaimed = unclaimed;
        all = λ limits known first so_far. subst (HasAnsweredAll k limits known first new) (sym is) (all_withdrawn limits known first so_far stop failed other shut);
      }
