-- Steps one after the other.
use Rattle.std.proofs.Common.{◌≡◌, ◌∙◌, ◌||◌, ◌&&◌, Bool, true, false, not, is_some, List, [], ◌∷◌, Option, Some, None, refl, sym, ap, subst, inl, inr, ⊎_elim}
use Rattle.std.specs.Option.{option_map, option_or}
use Rattle.std.specs.List.{Contains}
use Rattle.std.specs.FinMap.{empty, get}
use Rattle.jc_base.specs.declared.id.Key.{Key}
use Rattle.jc_base.specs.Journal.{Journal}
use Rattle.jc_base.specs.LogEntry.{IsKey, LogEntry, Body}
use Rattle.jc_ledger.specs.Kept.{IsKept, NoneCollide}
use Rattle.jc_ledger.specs.Known.{digest_under}
use Rattle.jc_ledger.specs.Union.{union}
use Rattle.jc_runs.specs.Between.{Between, Fate, IsInOne, journals, nothing}
use Rattle.jc_runs.specs.Stands.{Keeps, Stands}
use Rattle.jc_runs.specs.Steps.{LeadsOn, Step, Turn, answered_in, answers_of}
use Rattle.jc_runs.proofs.Acknowledging.{all_wider}
use Rattle.jc_runs.proofs.Standing.{kept_begins, stands_if}
use Rattle.jc_runs.proofs.Stepping.{Laws, Leaves, step_comes, steps_on}
use Rattle.jc_runs.proofs.Unions.{has_none, union_get, union_none, void}

comes_on : (steps : List Step) (b c : Between) → LeadsOn b steps c → (e : LogEntry) → Contains b.came e → Contains c.came e
comes_on [] b c same = λ e had. subst (λ (last : Between). Contains last.came e) (sym same) had
comes_on (step ∷ steps) b c (m, one, rest) = λ e had. comes_on steps m c rest e (step_comes step b m one e had)

stays_here : (b : Between) → Stands b → Keeps b [] b
stays_here b is = record {
  stands = is;
  acknowledged = tt;
  stored = λ e one. one;
  owners = λ s machine owns. inl owns;
  forgotten = λ k was. was;
  released = λ s was. was;
}

first_then : (b m c : Between) (step : Step) (steps : List Step) → Leaves b (answered_in step) (answers_of step) m → Keeps m steps c → Keeps b (step ∷ steps) c
first_then b m c step steps one rest = record {
  stands = rest.stands;
  acknowledged = (
    all_wider (IsInOne (journals m)) (IsInOne (journals c)) rest.stored (answered_in step) (answers_of step) one.acknowledged,
    rest.acknowledged,
  );
  stored = λ e has. rest.stored e (one.stored e has);
  owners = λ s machine owns. ⊎_elim (λ still. rest.owners s machine still) (λ was. inr (rest.released s was)) (one.owners s machine owns);
  forgotten = λ k was. rest.forgotten k (one.forgotten k was);
  released = λ s was. rest.released s (one.released s was);
}

pub keeps_on : Laws → (b c : Between) (steps : List Step) → LeadsOn b steps c → NoneCollide (Contains c.came) → Stands b → Keeps b steps c
keeps_on laws b c [] same none is = subst (Keeps b []) (sym same) (stays_here b is)
keeps_on laws b c (step ∷ steps) (m, one, rest) none is =
    let comes : (e : LogEntry) → Contains m.came e → Contains c.came e = comes_on steps m c rest in
    let leaves : Leaves b (answered_in step) (answers_of step) m = steps_on laws step b m is (λ e f here there. none e f (comes e here) (comes f there)) one in
    first_then b m c step steps leaves (keeps_on laws m c steps rest none leaves.stands)

-- ---- at first

pub stands_at_first : (((past now : Journal) → union (union past now) empty ≡ union past now)) → Stands nothing
stands_at_first same = stands_if nothing
    (kept_begins (record {
      noted = λ k key. sym (ap (option_map (digest_under k)) (union_none void k (has_none k)));
      apart = λ k. inl (has_none k);
      have_come = λ e stored. absurd (let none = union_none void e.key (has_none e.key) in let there : get (union void void) e.key ≡ Some e.body = stored in cc);
    }))
    (λ e stored. absurd (let none = has_none e.key in let there : get void e.key ≡ Some e.body = stored in cc))
    tt tt

-- ---- behind a run that ended

-- what is noted in full was noted in part no less
module _ (fate : Fate) (b c : Between) (t : Turn fate b c) (kept : IsKept b.known b.past b.now (Contains b.came)) (k : Key) (key : IsKey k) where
  all_noted : (now noted : Option Body) → get b.now k ≡ now → get t.noted k ≡ noted → (is_some (get b.now k) && not (is_some (get t.noted k))) ≡ false
  all_noted None noted here there = ap (λ (o : Option Body). is_some o && not (is_some (get t.noted k))) here
  all_noted (Some v) (Some w) here there =
      ap (λ (o : Option Body). is_some o && not (is_some (get t.noted k))) here ∙ ap (λ (o : Option Body). not (is_some o)) there
  all_noted (Some v) None here there = absurd (⊎_elim
      (λ (none : get b.past k ≡ None).
      let known : b.known k ≡ Some (digest_under k v) = kept.noted k key
      ∙ ap (option_map (digest_under k)) (union_get b.past b.now k ∙ ap (λ (o : Option Body). option_or o (get b.past k)) here) in
      let unknown : b.known k ≡ None = t.kept.noted k key
      ∙ ap (option_map (digest_under k)) (union_get b.past t.noted k ∙ (ap (λ (o : Option Body). option_or o (get b.past k)) there ∙ none)) in
      cc)
      (λ (none : get b.now k ≡ None). cc)
      (kept.apart k))

  or_false : (x y : Bool) → y ≡ false → (x || y) ≡ x
  or_false true y is = refl
  or_false false y is = is

  pub turns_whole : c.forgotten k ≡ b.forgotten k
  turns_whole = t.forgotten k ∙ or_false (b.forgotten k) (is_some (get b.now k) && not (is_some (get t.noted k)))
      (all_noted (get b.now k) (get t.noted k) refl refl)
