-- Calls of windows, and what they are to a ledger.
use Rattle.std.proofs.Common.{◌≡◌, ◌≢◌, ℕ, ◌+◌, ◌≤◌, BTreeMap, List, refl, sym, ap, subst, ◌∙◌, inl, inr, ⊎_elim, arith}
use Rattle.std.specs.Prelude.{Result, Ok, Err, IfOk, IsErr, IsErrAnd, IsOk, MatchResult, OnOk, Option}
use Rattle.std.proofs.lemmas.Bool.{false≢true}
use Rattle.jc_base.specs.declared.id.Id128.{Id128}
use Rattle.jc_base.specs.declared.id.Key.{Key}
use Rattle.jc_keeper.specs.declared.keeper.KeepStop.{KeepStop}
use Rattle.jc_keeper.specs.declared.keeper.KeepStop.TheVariants.{OutOfMemory, ReadFailed}
use Rattle.jc_keeper.specs.Keeping.{StoreHasCause}
use Rattle.jc_ledger.specs.declared.digest.EntryDigest.{EntryDigest}
use Rattle.jc_ledger.specs.declared.owner.MachineDigest.{MachineDigest}
use Rattle.jc_ledger.specs.Crash.{HasSome}
use Rattle.jc_ledger.specs.Known.{Known, with_notes}
use Rattle.jc_ledger.specs.Owners.{Owner}
use Rattle.jc_ledger_files.specs.declared.window_name.WindowName.{WindowName}
use Rattle.jc_ledger_files.specs.declared.window_note.WindowNote.{WindowNote}
use Rattle.jc_ledger_files.specs.Both.{BothStay, OwnersStay}
use Rattle.jc_ledger_files.specs.Owned.{owner_in, owner_window}
use Rattle.jc_ledger_files.specs.Stepped.{GoesOn, IsStep, LeavesNoMore, OnlyReads}
use Rattle.jc_ledger_files.specs.Windows.{known_in}
use Rattle.jc_ledger_files.proofs.Calling.{cause_passed_on, never_passed_on, rose_beside, rose_earlier}

pub never_ok : {T E : Type 0} (result : Result T E) → IsErr result → IsOk result → ⊥
never_ok (Ok value) err ok = false≢true err
never_ok (Err error) err ok = false≢true ok

pub went_on : {A : Type 0} {clean sound : A → Type 0} {failures : A → ℕ} {old new : A} {T : Type 0} {result : Result T KeepStop}
    → IsStep clean sound failures old new result → result ≢ Err ReadFailed → GoesOn clean sound failures old new result
went_on step never = record { stays = λ is was ok. step.answered is ok; was_sound = step.was_sound; was_clean = step.was_clean; store = step.store; never_read = never }

module _ {A : Type 0} {clean sound : A → Type 0} {failures : A → ℕ} {old : A} where
  -- nothing was called
  pub goes_none : {T : Type 0} (value : T) → GoesOn clean sound failures old old (Ok value)
  goes_none value = record {
    stays = λ is was ok. was;
    was_sound = λ is. is;
    was_clean = λ is. is;
    store = record { never_falls = omega arith; failed = λ is. absurd cc };
    never_read = λ is. absurd cc;
  }

  -- one call after another
  pub goes_then : {between new : A} {S T : Type 0} {value : S} {result : Result T KeepStop} → GoesOn clean sound failures old between (Ok value)
      → GoesOn clean sound failures between new result → GoesOn clean sound failures old new result
  goes_then {between = between} {new = new} first next = record {
    stays = λ is was ok. next.stays is (first.stays (next.was_clean is) was refl) ok;
    was_sound = λ is. first.was_sound (next.was_sound is);
    was_clean = λ is. first.was_clean (next.was_clean is);
    store = record {
      never_falls = omega (arith, first.store.never_falls, next.store.never_falls);
      failed = λ is. rose_earlier (failures old) (failures between) (failures new) first.store.never_falls (next.store.failed is);
    };
    never_read = next.never_read;
  }

  pub step_after : {between new : A} {S T : Type 0} {value : S} {result : Result T KeepStop} → GoesOn clean sound failures old between (Ok value)
      → IsStep clean sound failures between new result → IsStep clean sound failures old new result
  step_after {between = between} {new = new} first next = record {
    answered = next.answered;
    was_sound = λ is. first.was_sound (next.was_sound is);
    was_clean = λ is. first.was_clean (next.was_clean is);
    store = record {
      never_falls = omega (arith, first.store.never_falls, next.store.never_falls);
      failed = λ is. rose_earlier (failures old) (failures between) (failures new) first.store.never_falls (next.store.failed is);
    };
  }

  module _ {new : A} {S T : Type 0} where
    pub goes_answer : {value : S} → GoesOn clean sound failures old new (Ok value) → (answer : T) → GoesOn clean sound failures old new (Ok answer)
    goes_answer goes answer = record {
      stays = λ is was ok. goes.stays is was refl;
      was_sound = goes.was_sound;
      was_clean = goes.was_clean;
      store = record { never_falls = goes.store.never_falls; failed = λ is. absurd cc };
      never_read = λ is. absurd cc;
    }

    -- ... behind which memory was refused
    pub goes_refused : {value : S} → GoesOn clean sound failures old new (Ok value) → (result : Result T KeepStop)
        → IsErr result × IsErrAnd result (λ s. s ≡ OutOfMemory) → GoesOn clean sound failures old new result
    goes_refused goes (Ok answer) is = absurd (false≢true is.0)
    goes_refused goes (Err stop) is =
        let memory : stop ≡ OutOfMemory = is.1 in
        record {
          stays = λ clean was ok. absurd (false≢true ok);
          was_sound = goes.was_sound;
          was_clean = goes.was_clean;
          store = record { never_falls = goes.store.never_falls; failed = λ failed. absurd cc };
          never_read = λ read. absurd cc;
        }

    -- it failed
    pub goes_fail : {stop : KeepStop} → GoesOn {T = S} clean sound failures old new (Err stop) → (result : Result T KeepStop)
        → IsErr result × IsErrAnd result (λ s. s ≡ stop) → GoesOn clean sound failures old new result
    goes_fail goes result is = record {
      stays = λ clean was ok. absurd (never_ok result is.0 ok);
      was_sound = goes.was_sound;
      was_clean = goes.was_clean;
      store = cause_passed_on result is goes.store;
      never_read = never_passed_on result is goes.never_read;
    }

    pub step_failed : {stop : KeepStop} → GoesOn {T = S} clean sound failures old new (Err stop) → (result : Result T KeepStop)
        → IsErr result × IsErrAnd result (λ s. s ≡ stop) → IsStep clean sound failures old new result
    step_failed goes result is = record {
      answered = λ clean ok. absurd (never_ok result is.0 ok);
      was_sound = goes.was_sound;
      was_clean = goes.was_clean;
      store = cause_passed_on result is goes.store;
    }

module _ {A : Type 0} {clean sound : A → Type 0} {failures : A → ℕ} {notes : A → WindowName → List WindowNote} {may_leave : A → WindowName → List WindowNote → Type 0}
    {old : A}
  where
    pub reads_none : {T : Type 0} (value : T) → OnlyReads clean sound failures notes may_leave old old (Ok value)
    reads_none value = record { on = goes_none value; same = λ is. refl; crash = λ is w left may. may }

    -- the windows were read
    pub one_read : {new : A} {T : Type 0} {result : Result T KeepStop} → IsStep clean sound failures old new result → (sound new → notes new ≡ notes old)
        → (clean new → LeavesNoMore (may_leave old) (may_leave new)) → result ≢ Err ReadFailed → OnlyReads clean sound failures notes may_leave old new result
    one_read step same crash never = record { on = went_on step never; same = same; crash = crash }

    module _ {new : A} {S T : Type 0} where
      pub reads_answer : {value : S} → OnlyReads clean sound failures notes may_leave old new (Ok value) → (answer : T)
          → OnlyReads clean sound failures notes may_leave old new (Ok answer)
      reads_answer reads answer = record { on = goes_answer reads.on answer; same = reads.same; crash = reads.crash }

      pub reads_refused : {value : S} → OnlyReads clean sound failures notes may_leave old new (Ok value) → (result : Result T KeepStop)
          → IsErr result × IsErrAnd result (λ s. s ≡ OutOfMemory) → OnlyReads clean sound failures notes may_leave old new result
      reads_refused reads result is = record { on = goes_refused reads.on result is; same = reads.same; crash = reads.crash }

      pub reads_fail : {stop : KeepStop} → OnlyReads {T = S} clean sound failures notes may_leave old new (Err stop) → (result : Result T KeepStop)
          → IsErr result × IsErrAnd result (λ s. s ≡ stop) → OnlyReads clean sound failures notes may_leave old new result
      reads_fail reads result is = record { on = goes_fail reads.on result is; same = reads.same; crash = reads.crash }

pub none_answered : {T E : Type 0} (P : T → Type 0) (result : Result T E) → IsErr result → IfOk result P
none_answered P (Ok value) err = absurd (false≢true err)
none_answered P (Err error) err = tt

pub none_done : {T E : Type 0} (P : Type 0) (result : Result T E) → IsErr result → OnOk result P
none_done P (Ok value) err = absurd (false≢true err)
none_done P (Err error) err = tt

pub none_matched : {T E Q : Type 0} (P : T → Type 0) (result : Result T E) → IsErr result → Q → MatchResult result P (λ _. Q)
none_matched P (Ok value) err holds = absurd (false≢true err)
none_matched P (Err error) err holds = holds

pub whatever : {T E P : Type 0} (result : Result T E) → P → OnOk result P
whatever (Ok value) holds = holds
whatever (Err error) holds = tt

-- whether the store failed, of what answered, of what failed alike, and of a call behind others
pub cause_of_none : {T : Type 0} {value : T} {before now : ℕ} → before ≤ now → StoreHasCause before now (Ok value)
cause_of_none more = record { never_falls = more; failed = λ is. absurd cc }

pub cause_alike : {S T : Type 0} {stop : KeepStop} {before now : ℕ} → StoreHasCause {T = S} before now (Err stop) → StoreHasCause {T = T} before now (Err stop)
cause_alike store = record { never_falls = store.never_falls; failed = λ is. store.failed cc }

pub cause_then : {T : Type 0} {result : Result T KeepStop} {first before now : ℕ} (other last : ℕ) → first ≤ other + before → last ≡ other → StoreHasCause before now result
    → StoreHasCause first (last + now) result
cause_then {first = first} {before = before} {now = now} other last begins same store = record {
  never_falls = omega (arith, begins, same, store.never_falls);
  failed = λ is. rose_beside before now other first (last + now) (omega (arith, begins)) (omega (arith, same)) (store.failed is);
}

-- memory was refused before anything was called
pub refused_cause : {T : Type 0} (count : ℕ) (result : Result T KeepStop) → IsErr result × IsErrAnd result (λ s. s ≡ OutOfMemory) → StoreHasCause count count result
refused_cause count (Ok value) is = absurd (false≢true is.0)
refused_cause count (Err stop) is = let memory : stop ≡ OutOfMemory = is.1 in record { never_falls = omega arith; failed = λ failed. absurd cc }

pub refused_never : {T : Type 0} (result : Result T KeepStop) → IsErr result × IsErrAnd result (λ s. s ≡ OutOfMemory) → result ≢ Err ReadFailed
refused_never (Ok value) is read = cc
refused_never (Err stop) is read = let memory : stop ≡ OutOfMemory = is.1 in cc

-- ---- a ledger over windows, with owners in others

module _ {A : Type 0} {clean sound : A → Type 0} {failures : A → ℕ} {notes : A → WindowName → List WindowNote} {may_leave : A → WindowName → List WindowNote → Type 0} where
  module _ {w0 w1 : A} {S T : Type 0} (o0 : A) where
    -- the windows were asked in vain
    pub first_failed : {stop : KeepStop} → IsStep {T = S} clean sound failures w0 w1 (Err stop) → (sound w1 → notes w1 ≡ notes w0)
        → (clean w1 → LeavesNoMore (may_leave w0) (may_leave w1)) → ◌≢◌ {A = Result S KeepStop} (Err stop) (Err ReadFailed) → (result : Result T KeepStop)
        → IsErr result × IsErrAnd result (λ s. s ≡ stop) → BothStay clean sound failures notes may_leave w0 o0 w1 o0 result
    first_failed step same crash never result is =
        let store = cause_passed_on result is step.store in
        record {
          on = record {
            answered = λ clean ok. absurd (never_ok result is.0 ok);
            was_sound = λ is. (step.was_sound is.0, is.1);
            was_clean = λ is. (step.was_clean is.0, is.1);
            store = record {
              never_falls = omega (arith, store.never_falls);
              failed = λ failed. rose_beside (failures w0) (failures w1) (failures o0) (failures w0 + failures o0) (failures w1 + failures o0) (omega arith) (omega arith)
                  (store.failed failed);
            };
            owned = λ is. refl;
            owners_crash = λ is s found left. inl left;
            never_read = never_passed_on result is never;
          };
          same = λ is. ap known_in (same is.0);
          crash = λ is found left. (left.0, (λ w. crash is.0 w (left.0 w) (left.1.0 w), left.1.1));
        }

    -- whatever failed is passed on
    pub stay_fails : {o1 : A} {stop : KeepStop} → BothStay {T = S} clean sound failures notes may_leave w0 o0 w1 o1 (Err stop) → (result : Result T KeepStop)
        → IsErr result × IsErrAnd result (λ s. s ≡ stop) → BothStay clean sound failures notes may_leave w0 o0 w1 o1 result
    stay_fails stay result is = record {
      on = record {
        answered = λ clean ok. absurd (never_ok result is.0 ok);
        was_sound = stay.on.was_sound;
        was_clean = stay.on.was_clean;
        store = cause_passed_on result is stay.on.store;
        owned = stay.on.owned;
        owners_crash = stay.on.owners_crash;
        never_read = never_passed_on result is stay.on.never_read;
      };
      same = stay.same;
      crash = stay.crash;
    }

    -- they were, and those of owners, too
    pub both_asked : {value : S} {o1 : A} {result : Result T KeepStop} → IsStep clean sound failures w0 w1 (Ok value) → (sound w1 → notes w1 ≡ notes w0)
        → (clean w1 → LeavesNoMore (may_leave w0) (may_leave w1)) → IsStep clean sound failures o0 o1 result → (sound o1 → notes o1 ≡ notes o0)
        → (clean o1 → LeavesNoMore (may_leave o0) (may_leave o1)) → result ≢ Err ReadFailed → BothStay clean sound failures notes may_leave w0 o0 w1 o1 result
    both_asked {o1 = o1} step same crash next next_same next_crash never = record {
      on = record {
        answered = λ is ok. (step.answered is.0 refl, next.answered is.1 ok);
        was_sound = λ is. (step.was_sound is.0, next.was_sound is.1);
        was_clean = λ is. (step.was_clean is.0, next.was_clean is.1);
        store = record {
          never_falls = omega (arith, step.store.never_falls, next.store.never_falls);
          failed = λ failed. rose_beside (failures o0) (failures o1) (failures w1) (failures w0 + failures o0) (failures w1 + failures o1)
              (omega (arith, step.store.never_falls)) (omega arith) (next.store.failed failed);
        };
        owned = λ is. ap owner_in (next_same is.1);
        owners_crash = λ is s found left. inl (left.0, (next_crash is.1 (owner_window s) left.0 left.1.0, left.1.1));
        never_read = never;
      };
      same = λ is. ap known_in (same is.0);
      crash = λ is found left. (left.0, (λ w. crash is.0 w (left.0 w) (left.1.0 w), left.1.1));
    }

  module _ {w0 o0 w1 o1 w2 o2 : A} {S T : Type 0} {value : S} {result : Result T KeepStop} (begun : BothStay clean sound failures notes may_leave w0 o0 w1 o1 (Ok value)) where
    -- then the windows went on
    pub windows_go : GoesOn clean sound failures w1 w2 result → o2 ≡ o1 → OwnersStay clean sound failures notes may_leave w0 o0 w2 o2 result
    windows_go next stay = record {
      answered = λ is ok. let began = begun.on.answered (was_clean is) refl in (next.stays is.0 began.0 ok, subst sound (sym stay) began.1);
      was_sound = λ is. begun.on.was_sound (was_sound is);
      was_clean = λ is. begun.on.was_clean (was_clean is);
      store = record {
        never_falls = omega (arith, begun.on.store.never_falls, next.store.never_falls, count);
        failed = λ is. rose_beside (failures w1) (failures w2) (failures o1) (failures w0 + failures o0) (failures w2 + failures o2)
            begun.on.store.never_falls (omega (arith, count)) (next.store.failed is);
      };
      owned = λ is. ap (λ o. owner_in (notes o)) stay ∙ begun.on.owned (was_sound is);
      owners_crash = λ is s found left.
          begun.on.owners_crash (was_clean is) s found (left.0, (subst (λ o. may_leave o (owner_window s) left.0) stay left.1.0, left.1.1));
      never_read = next.never_read;
    }
      where
        was_clean : clean w2 × clean o2 → clean w1 × clean o1
        was_clean is = (next.was_clean is.0, subst clean stay is.1)

        was_sound : sound w2 × sound o2 → sound w1 × sound o1
        was_sound is = (next.was_sound is.0, subst sound stay is.1)

        count : failures o2 ≡ failures o1
        count = ap failures stay

    -- ... and were only read
    pub windows_read : OnlyReads clean sound failures notes may_leave w1 w2 result → o2 ≡ o1 → BothStay clean sound failures notes may_leave w0 o0 w2 o2 result
    windows_read reads stay = record {
      on = windows_go reads.on stay;
      same = λ is. ap known_in (reads.same is.0) ∙ begun.same (reads.on.was_sound is.0, subst sound stay is.1);
      crash = λ is found left.
          begun.crash (reads.on.was_clean is.0, subst clean stay is.1) found (left.0, (λ w. reads.crash is.0 w (left.0 w) (left.1.0 w), left.1.1));
    }

    -- ... or those of owners were
    pub owners_read : OnlyReads clean sound failures notes may_leave o1 o2 result → w2 ≡ w1 → BothStay clean sound failures notes may_leave w0 o0 w2 o2 result
    owners_read reads stay = record {
      on = record {
        answered = λ is ok. let began = begun.on.answered (was_clean is) refl in (subst sound (sym stay) began.0, reads.on.stays is.1 began.1 ok);
        was_sound = λ is. begun.on.was_sound (was_sound is);
        was_clean = λ is. begun.on.was_clean (was_clean is);
        store = record {
          never_falls = omega (arith, begun.on.store.never_falls, reads.on.store.never_falls, count);
          failed = λ is. rose_beside (failures o1) (failures o2) (failures w1) (failures w0 + failures o0) (failures w2 + failures o2)
              (omega (arith, begun.on.store.never_falls)) (omega (arith, count)) (reads.on.store.failed is);
        };
        owned = λ is. ap owner_in (reads.same is.1) ∙ begun.on.owned (was_sound is);
        owners_crash = λ is s found left.
            begun.on.owners_crash (was_clean is) s found (left.0, (reads.crash is.1 (owner_window s) left.0 left.1.0, left.1.1));
        never_read = reads.on.never_read;
      };
      same = λ is. ap (λ w. known_in (notes w)) stay ∙ begun.same (was_sound is);
      crash = λ is found left. begun.crash (was_clean is) found (left.0, (λ w. subst (λ v. may_leave v w (left.0 w)) stay (left.1.0 w), left.1.1));
    }
      where
        was_clean : clean w2 × clean o2 → clean w1 × clean o1
        was_clean is = (subst clean stay is.0, reads.on.was_clean is.1)

        was_sound : sound w2 × sound o2 → sound w1 × sound o1
        was_sound is = (subst sound stay is.0, reads.on.was_sound is.1)

        count : failures w2 ≡ failures w1
        count = ap failures stay

-- what was told of the owners then is so of those before
pub owners_told : (between before : Owner) (s : Id128) (result : Result (Option MachineDigest) KeepStop) → IfOk result (λ found. found ≡ between s) → between ≡ before
    → IfOk result (λ found. found ≡ before s)
owners_told between before s (Ok found) is same = is ∙ ap (λ o. o s) same
owners_told between before s (Err stop) is same = tt

pub known_told : (between before : Known) (k : Key) (result : Result (Option EntryDigest) KeepStop) → IfOk result (λ found. found ≡ between k) → between ≡ before
    → IfOk result (λ found. found ≡ before k)
known_told between before k (Ok found) is same = is ∙ ap (λ o. o k) same
known_told between before k (Err stop) is same = tt

pub has_some : (notes : BTreeMap Key EntryDigest) {between before found left : Known} → between ≡ before → ((k : Key) → found k ≡ left k) → HasSome between notes left
    → HasSome before notes found
has_some notes {between} {before} {found} {left} same is has k = ⊎_elim
    (λ was. inl (is k ∙ (was ∙ ap (λ known. known k) same)))
    (λ noted. inr (is k ∙ (noted ∙ ap (λ known. with_notes notes known k) same)))
    (has k)
