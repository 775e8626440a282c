-- An upload that is collected, once the keeper has settled.
use Rattle.std.proofs.Common.{◌≡◌, ◌⊎◌, ◌≤◌, ◌<◌, ◌==◌, ℕ, Bool, true, false, IsTrue, List, Option, Some, Result, Err, refl, sym, ap, subst, ◌∙◌, inl, inr, ⊎_elim, arith}
use Rattle.std.specs.Prelude.{IsOk, if◌then◌else◌}
use Rattle.std.proofs.lemmas.Bool.{eqb-false, eqb-true}
use Rattle.jc_base.specs.declared.fault.Code.TheVariants.{Conflict as ConflictCode, NotTheOwner as NotTheOwnerCode, ReadFailed as ReadFailedCode, StoreFailed as StoreFailedCode}
use Rattle.jc_base.specs.declared.id.Id128.{Id128}
use Rattle.jc_base.specs.declared.limits.Limits.{Limits}
use Rattle.jc_base.specs.Device.{Rose}
use Rattle.jc_base.specs.Fault.{number_of}
use Rattle.jc_base.specs.Journal.{Journal}
use Rattle.jc_keeper.specs.declared.keeper.KeepStop.{KeepStop}
use Rattle.jc_keeper.specs.declared.keeper.KeepStop.TheVariants.{ReadFailed, StoreFailed, OutOfMemory}
use Rattle.jc_keeper.specs.declared.keeper.Keeper as keepers
use Rattle.jc_keeper.specs.BroughtLaws.{brought_then}
use Rattle.jc_keeper.specs.Claimed.{ClaimsFor, StoresNew}
use Rattle.jc_keeper.specs.ClaimedLaws.{claims_stay}
use Rattle.jc_keeper.specs.Crash.{AddsOnly}
use Rattle.jc_keeper.specs.Keeping.{StoreHasCause, code_of_stop}
use Rattle.jc_keeper.specs.Whose.{StayWhose}
use Rattle.jc_upload.specs.declared.answer.Answer.{Answer}
use Rattle.jc_upload.specs.declared.answer.Answer.TheVariants.{Ack, No}
use Rattle.jc_collect.specs.Chain.{is_acknowledged}
use Rattle.jc_collect.specs.Crash.{IsUnstored, MayBeKept, TakesUpload}
use Rattle.jc_collect.specs.Position.{Collects, FailsUnread, HasCode, NamesNone}
use Rattle.jc_collect.specs.Settled.{HasAnswered, withdrawn}
use Rattle.jc_collect.specs.Taken.{Brings, HasCollected}
use Rattle.jc_collect.proofs.CollectedMore.{rose_earlier}

-- ---- the code of a keeper that can't store

stop_codes : (stop : KeepStop) → (60 < number_of (code_of_stop stop)) × (number_of (code_of_stop stop) < 64)
stop_codes ReadFailed = (omega arith, omega arith)
stop_codes StoreFailed = (omega arith, omega arith)
stop_codes OutOfMemory = (omega arith, omega arith)

-- One that was refused for a conflict is answered so, and any other one as it was.
pub each_refused : (P : Answer → Type 0) (stop : KeepStop) (of : Option (Id128 × ℕ)) (code place : ℕ)
    → (code ≡ number_of ConflictCode → P (No of (number_of (code_of_stop stop)) 0)) → (¬ (code ≡ number_of ConflictCode) → P (No of code place))
    → P (withdrawn stop (No of code place))
each_refused P stop of code place conflict other = by (code == 60) refl
  where
    by : (is : Bool) → (code == 60) ≡ is → P (if is then No of (number_of (code_of_stop stop)) 0 else No of code place)
    by true is = conflict (eqb-true code 60 is)
    by false is = other (eqb-false code 60 is)

pub never_owned : (stop : KeepStop) (answer : Answer) → HasCode (withdrawn stop answer) NotTheOwnerCode → HasCode answer NotTheOwnerCode
never_owned stop (Ack source start count new left) code = absurd (omega (arith, code, (stop_codes stop).1))
never_owned stop (No of number place) code = each_refused (λ (a : Answer). HasCode a NotTheOwnerCode → number ≡ number_of NotTheOwnerCode) stop of number place
    (λ conflict found. absurd (omega (arith, found, (stop_codes stop).1))) (λ other found. found) code

pub never_conflict : (stop : KeepStop) (answer : Answer) → ¬ HasCode (withdrawn stop answer) ConflictCode
never_conflict stop (Ack source start count new left) code = omega (arith, code, (stop_codes stop).0)
never_conflict stop (No of number place) code = each_refused (λ (a : Answer). ¬ HasCode a ConflictCode) stop of number place
    (λ conflict found. omega (arith, found, (stop_codes stop).0)) (λ other. other) code

pub is_unstored : (stop : KeepStop) (of : Option (Id128 × ℕ)) (place : ℕ) → ¬ (stop ≡ ReadFailed) → IsUnstored (No of (number_of (code_of_stop stop)) place)
is_unstored ReadFailed of place other = absurd (other refl)
is_unstored StoreFailed of place other = inl refl
is_unstored OutOfMemory of place other = inr refl

pub store_failed : (stop : KeepStop) → number_of (code_of_stop stop) ≡ number_of StoreFailedCode → stop ≡ StoreFailed
store_failed ReadFailed code = absurd (omega (arith, code))
store_failed StoreFailed code = refl
store_failed OutOfMemory code = absurd (omega (arith, code))

pub read_failed : (stop : KeepStop) (source : Id128) (start count new left : ℕ) → ¬ (stop ≡ ReadFailed) → ¬ HasCode (withdrawn stop (Ack source start count new left)) ReadFailedCode
read_failed ReadFailed source start count new left other code = other refl
read_failed StoreFailed source start count new left other code = omega (arith, code)
read_failed OutOfMemory source start count new left other code = omega (arith, code)

rose_then : {T : Type 0} (first between last : ℕ) → first ≤ between → {result : Result T KeepStop} → StoreHasCause between last result → result ≡ Err StoreFailed → Rose first last
rose_then first between last fewer store is = rose_earlier first between last fewer (store.failed is)

pub never_reads : {T : Type 0} {stop : KeepStop} → ¬ ◌≡◌ {A = Result T KeepStop} (Err stop) (Err ReadFailed) → ¬ (stop ≡ ReadFailed)
never_reads never is = never (ap Err is)

module _ (stop : KeepStop) (source : Id128) (start count new left : ℕ) {answer : Answer} (is : answer ≡ withdrawn stop (Ack source start count new left)) where
  pub reads_none : ¬ (stop ≡ ReadFailed) → ¬ HasCode answer ReadFailedCode
  reads_none other code = read_failed stop source start count new left other (subst (λ (a : Answer). HasCode a ReadFailedCode) is code)

  pub unread_none : ¬ FailsUnread answer
  unread_none unread = subst FailsUnread is unread

  pub untouched_none : ¬ NamesNone answer
  untouched_none none = subst NamesNone is none

pub not_acknowledged : {of : Option (Id128 × ℕ)} {code place : ℕ} {answer : Answer} → answer ≡ No of code place → ¬ IsTrue (is_acknowledged answer)
not_acknowledged is acks = absurd cc

-- ---- what is answered then

module _ {K : Type 0} {k : keepers.Ghosts K} {limits : Limits} {known : Option (List ℕ)} {old mid : K} where
  -- It isn't acknowledged, so the keeper doesn't settle.
  pub answered_none : {answer : Answer} → ¬ IsTrue (is_acknowledged answer) → HasCollected k limits known old mid answer → HasAnswered k limits known old mid answer
  answered_none none was = record {
    position = was.position;
    was_sound = was.was_sound;
    was_clean = was.was_clean;
    acknowledged = λ is_clean is_made acks. absurd (none acks);
    stored = λ acks. absurd (none acks);
    settled = λ before. ⊎_elim (λ acks. absurd (none acks)) (λ waits. waits) (was.settled before);
    crash = was.crash;
    recovers = was.recovers;
    stays_made = was.stays_made;
    owner = was.owner;
    foreign = was.foreign;
    brought = was.brought;
    claimed = was.claimed;
    store = was.store;
  }

  module _ {new : K} {source : Id128} {start count more left : ℕ} (was : HasCollected k limits known old mid (Ack source start count more left)) {T : Type 0} {result : Result T KeepStop}
      (settled : k.settled new) (same : k.made mid → k.sound new → k.journal new ≡ k.journal mid) (before : k.sound new → k.sound mid) (clean : k.clean new → k.clean mid)
      (crash : k.clean new → k.made mid → AddsOnly (k.may_leave mid) (k.may_leave new) (λ found. k.sound mid × (found ≡ k.journal mid)))
      (recovers : k.clean new → k.made mid → k.leaves_journals mid → k.leaves_journals new) (made : k.made mid → k.made new)
      (store : StoreHasCause (k.failures mid) (k.failures new) result) (brought : Brings k mid new)
      (unclaimed : k.sound new → k.made mid → StayWhose (k.whose new) (k.whose mid))
    where
      -- What a crash leaves of it is the whole upload, whatever it is answered.
      leaves : (answer : Answer) → MayBeKept answer → k.clean new → k.made old
          → AddsOnly (k.may_leave old) (k.may_leave new) (λ found. k.sound old × TakesUpload limits known (k.journal old) answer found)
      leaves answer may is_clean is_made found is_left = ⊎_elim
          (λ might. ⊎_elim
          (λ was_left. inl was_left)
          (λ added. inr (
            added.0,
            record {
              answered = may;
              source = added.1.source;
              start = added.1.start;
              count = added.1.count;
              new = added.1.new;
              left = added.1.left;
              collects = added.1.collects;
            },
          ))
          (was.crash (clean is_clean) is_made found might))
          (λ added. inr (
            was.was_sound added.0,
            record {
              answered = may;
              source = source;
              start = start;
              count = count;
              new = more;
              left = left;
              collects = subst (λ (m : Journal). Collects limits known (k.journal old) (Ack source start count more left) m) (sym added.1)
                  (was.position (was.was_sound added.0) is_made added.0);
            },
          ))
          (crash is_clean (was.stays_made is_made) found is_left)

      pub answered_ok : (k.clean new → k.made mid → IsOk result → k.sound new ⊎ (k.at_once × (k.sound mid → k.sound new))) → IsOk result
          → HasAnswered k limits known old new (Ack source start count more left)
      answered_ok answered ok = record {
        position = λ is_sound is_made after. subst (λ (m : Journal). Collects limits known (k.journal old) (Ack source start count more left) m)
            (sym (same (was.stays_made is_made) after)) (was.position is_sound is_made (before after));
        was_sound = λ is. was.was_sound (before is);
        was_clean = λ is. was.was_clean (clean is);
        acknowledged = λ is_clean is_made acks. ⊎_elim (λ is. is) (λ once. once.1 (was.acknowledged once.0 (clean is_clean) acks)) (answered is_clean (was.stays_made is_made) ok);
        stored = λ acks. settled;
        settled = λ waited. settled;
        crash = leaves (Ack source start count more left) tt;
        recovers = λ is_clean is_made was_so. recovers is_clean (was.stays_made is_made) (was.recovers (clean is_clean) is_made was_so);
        stays_made = λ is. made (was.stays_made is);
        owner = λ code. absurd code;
        foreign = λ is machine brings. tt;
        brought = brought_then k.brings old mid new before was.stays_made was.brought brought;
        claimed = record {
          claims = λ is is_made machine brings.
              let is_mid = was.stays_made is_made in
              let stored = (brought machine (was.brought machine brings).0).1.stays is in
              subst (λ (j : Journal). ClaimsFor machine (k.whose old) (k.whose new) (λ s. StoresNew (k.journal old) j s ⊎ ⊥)) (sym (same is_mid is))
              (claims_stay machine (k.whose old) (k.whose mid) (k.whose new) (λ s. StoresNew (k.journal old) (k.journal mid) s ⊎ ⊥) stored (unclaimed is is_mid)
              (was.claimed.claims (before is) is_made machine brings));
        };
        store = record { never_falls = omega (arith, was.store.never_falls, store.never_falls); failed = λ code. absurd code };
      }

      pub answered_withdrawn : (stop : KeepStop) (answer : Answer) → answer ≡ withdrawn stop (Ack source start count more left) → result ≡ Err stop → ¬ (stop ≡ ReadFailed) → (k.sound new → ⊥)
          → HasAnswered k limits known old new answer
      answered_withdrawn stop answer is failed other shut = subst (HasAnswered k limits known old new) (sym is) (record {
        position = λ is_sound is_made after. absurd (shut after);
        was_sound = λ is. absurd (shut is);
        was_clean = λ is. was.was_clean (clean is);
        acknowledged = λ is_clean is_made acks. absurd (cc);
        stored = λ acks. settled;
        settled = λ waited. settled;
        crash = leaves (withdrawn stop (Ack source start count more left)) (is_unstored stop (Some (source, start)) 0 other);
        recovers = λ is_clean is_made was_so. recovers is_clean (was.stays_made is_made) (was.recovers (clean is_clean) is_made was_so);
        stays_made = λ is. made (was.stays_made is);
        owner = λ code. absurd (never_owned stop (Ack source start count more left) code);
        foreign = λ is. absurd (shut is);
        brought = brought_then k.brings old mid new before was.stays_made was.brought brought;
        claimed = record { claims = λ is. absurd (shut is) };
        store = record {
          never_falls = omega (arith, was.store.never_falls, store.never_falls);
          failed = λ code. rose_then (k.failures old) (k.failures mid) (k.failures new) was.store.never_falls store (failed ∙ ap Err (store_failed stop code));
        };
      })
