-- What one step leads to.
use Rattle.std.proofs.Common.{◌≡◌, ◌⊎◌, ◌∙◌, ◌&&◌, ℕ, Bool, true, false, cond, not, is_some, List, [], ◌∷◌, Option, Some, None, refl, sym, ap, subst, inl, inr, ⊎_elim}
use Rattle.std.specs.Option.{option_map}
use Rattle.std.specs.List.{AllByRecursion, Contains}
use Rattle.std.specs.FinMap.{empty, get, retain_keys}
use Rattle.jc_base.specs.declared.id.Id128.{Id128}
use Rattle.jc_base.specs.declared.id.Key.{Key}
use Rattle.jc_base.specs.Journal.{Journal}
use Rattle.jc_base.specs.LogEntry.{IsKey, LogEntry, Body}
use Rattle.jc_keeper.specs.Agree.{IsStored}
use Rattle.jc_keeper.specs.Listing.{entry_under}
use Rattle.jc_ledger.specs.declared.digest.EntryDigest.{EntryDigest}
use Rattle.jc_ledger.specs.declared.owner.MachineDigest.{MachineDigest}
use Rattle.jc_ledger.specs.Kept.{AreApart, IsKept, NoneCollide}
use Rattle.jc_ledger.specs.Known.{Known, digest_under, known_of}
use Rattle.jc_ledger.specs.Lagging.{MayCatchUp}
use Rattle.jc_ledger.specs.Union.{union}
use Rattle.jc_upload.specs.declared.answer.Answer.{Answer}
use Rattle.jc_runs.specs.Acknowledged.{AreAcknowledged}
use Rattle.jc_runs.specs.Between.{Between, Fate, IsInOne, MayBegin, journals, journals_of}
use Rattle.jc_runs.specs.Stands.{AreApartBut, IsPastBut, Stands}
use Rattle.jc_runs.specs.Steps.{EndsRun, Expiry, Forgetting, Leads, LeavesEarlier, Step, StopsRun, Turn, answered_in, answers_of}
use Rattle.jc_runs.specs.Steps.{Ends, Stops, Turns, Expires, Forgets}
use Rattle.jc_runs.proofs.Acknowledging.{Collecting, Takes, all_wider, takes_each, takes_found}
use Rattle.jc_runs.proofs.Lists.{apart_but_more, not_or, or_true, past_but_more, true_or}
use Rattle.jc_runs.proofs.Standing.{in_one, kept_begins, stands_if}
use Rattle.jc_runs.proofs.Unions.{has_none, in_either, in_now, in_past, part_get, part_none, part_of, part_union, part_union_of}

-- what uploads make of a journal, and the union with an empty database
pub record Laws : Type 0 where
  pub collecting : Collecting
  pub same : (past now : Journal) → union (union past now) empty ≡ union past now

-- What one step leads to.
pub record Leaves (b : Between) (uploads : List (Option (List ℕ))) (answers : List Answer) (c : Between) : Type 0 where
  pub stands : Stands c
  pub acknowledged : AreAcknowledged (IsInOne (journals c)) uploads answers
  pub stored : (e : LogEntry) → IsInOne (journals b) e → IsInOne (journals c) e
  pub owners : (s : Id128) (machine : MachineDigest) → b.owner s ≡ Some machine → (c.owner s ≡ Some machine) ⊎ (c.released s ≡ true)
  pub forgotten : (k : Key) → b.forgotten k ≡ true → c.forgotten k ≡ true
  pub released : (s : Id128) → b.released s ≡ true → c.released s ≡ true

-- ---- runs

module _ (uploads : List (Option (List ℕ))) (answers : List Answer) (b c : Between) (is : Stands b) (l : LeavesEarlier b c) (begins : MayBegin c)
    (takes : Takes uploads (union b.past b.now) answers (union b.past c.now))
  where
    earlier : journals_of c.earlier ≡ journals_of b.earlier
    earlier = ap journals_of l.earlier

    backed : (e : LogEntry) → IsStored c.past e → IsInOne (journals_of c.earlier) e
    backed e stored =
        subst (λ (ms : List Journal). IsInOne ms e) (sym earlier) (is.backed e (subst (λ (m : Journal). IsStored m e) l.past stored))

    noted : AllByRecursion (IsPastBut c.forgotten c.past) (journals_of c.earlier)
    noted = subst (λ (f : Key → Bool). AllByRecursion (IsPastBut f c.past) (journals_of c.earlier)) (sym l.forgotten)
        (subst (λ (m : Journal). AllByRecursion (IsPastBut b.forgotten m) (journals_of c.earlier)) (sym l.past)
        (subst (λ (ms : List Journal). AllByRecursion (IsPastBut b.forgotten b.past) ms) (sym earlier) is.noted))

    among : AreApartBut c.forgotten (journals_of c.earlier)
    among = subst (λ (f : Key → Bool). AreApartBut f (journals_of c.earlier)) (sym l.forgotten)
        (subst (AreApartBut b.forgotten) (sym earlier) is.once.1)

    there : (e : LogEntry) → IsStored (union b.past c.now) e → IsInOne (journals c) e
    there e stored = in_one c backed e (subst (λ (m : Journal). IsStored (union m c.now) e) (sym l.past) stored)

    grows : (e : LogEntry) → IsInOne (journals b) e → IsInOne (journals c) e
    grows e (inl now) = there e (takes.kept e (in_now b.past b.now e now))
    grows e (inr before) = inr (subst (λ (ms : List Journal). IsInOne ms e) (sym earlier) before)

    pub ran : Leaves b uploads answers c
    ran = record {
      stands = stands_if c begins backed noted among;
      acknowledged = all_wider (IsStored (union b.past c.now)) (IsInOne (journals c)) there uploads answers takes.acknowledged;
      stored = grows;
      owners = λ s machine owns. inl (l.owners s machine owns);
      forgotten = λ k was. ap (λ (f : Key → Bool). f k) l.forgotten ∙ was;
      released = λ s was. ap (λ (f : Id128 → Bool). f s) l.released ∙ was;
    }

kept_past : (known : Known) (past later now : Journal) (came : LogEntry → Type 0) → later ≡ past → IsKept known past now came → IsKept known later now came
kept_past known past later now came same kept = subst (λ (m : Journal). IsKept known m now came) (sym same) kept

pub ended : Laws → (uploads : List (Option (List ℕ))) (answers : List Answer) (b c : Between) → Stands b → NoneCollide (Contains c.came)
    → EndsRun uploads answers b c → Leaves b uploads answers c
ended laws uploads answers b c is none ends =
    let l = laws.collecting in
    ran uploads answers b c is ends.leaves
    (kept_begins (kept_past c.known b.past c.past c.now (Contains c.came) ends.leaves.past (ends.kept is.begins none)))
    (takes_each l uploads (union b.past b.now) (union b.past c.now) answers (ends.stored is.begins none l.limits l.defaults))

pub stopped : Laws → (uploads : List (Option (List ℕ))) (answers : List Answer) (b c : Between) → Stands b → NoneCollide (Contains c.came)
    → StopsRun uploads answers b c → Leaves b uploads answers c
stopped laws uploads answers b c is none stops =
    let l = laws.collecting in
    ran uploads answers b c is stops.leaves (stops.lags is.begins none)
    (takes_found l uploads (union b.past b.now) (union b.past c.now) answers (stops.stored is.begins none l.limits l.defaults))

-- ---- a turn

none_answered : (c : Between) → AreAcknowledged (IsInOne (journals c)) [] []
none_answered c i source from count new left at = absurd cc

module _ (laws : Laws) (fate : Fate) (b c : Between) (is : Stands b) (t : Turn fate b c) where
  turned : MayCatchUp b.known (union b.past t.noted) empty (Contains b.came)
  turned = kept_begins (record {
    noted = λ k key. t.kept.noted k key ∙ ap (λ (m : Journal). known_of m k) (sym (laws.same b.past t.noted));
    apart = λ k. inr (has_none k);
    have_come = λ e stored. t.kept.have_come e (subst (λ (m : Journal). IsStored m e) (laws.same b.past t.noted) stored);
  })

  begins_turned : MayBegin c
  begins_turned =
      subst (λ (f : Known). MayCatchUp f c.past c.now (Contains c.came)) (sym t.known)
      (subst (λ (m : Journal). MayCatchUp b.known m c.now (Contains c.came)) (sym t.past)
      (subst (λ (m : Journal). MayCatchUp b.known (union b.past t.noted) m (Contains c.came)) (sym t.now)
      (subst (λ (es : List LogEntry). MayCatchUp b.known (union b.past t.noted) empty (Contains es)) (sym t.came) turned)))

  earlier_turned : journals_of c.earlier ≡ b.now ∷ journals_of b.earlier
  earlier_turned = ap journals_of t.earlier

  backed_turned : (e : LogEntry) → IsStored c.past e → IsInOne (b.now ∷ journals_of b.earlier) e
  backed_turned e stored = ⊎_elim
      (λ (now : IsStored t.noted e). inl (t.lags.has e now))
      (λ (past : IsStored b.past e). inr (is.backed e past))
      (in_either b.past t.noted e (subst (λ (m : Journal). IsStored m e) t.past stored))

  still_forgotten : (k : Key) → b.forgotten k ≡ true → c.forgotten k ≡ true
  still_forgotten k was = t.forgotten k ∙ true_or (b.forgotten k) (is_some (get b.now k) && not (is_some (get t.noted k))) was

  later_noted : (e : LogEntry) → IsStored b.past e ⊎ (b.forgotten e.key ≡ true) → IsStored c.past e ⊎ (c.forgotten e.key ≡ true)
  later_noted e (inr was) = inr (still_forgotten e.key was)
  later_noted e (inl past) = inl (subst (λ (m : Journal). IsStored m e) (sym t.past)
      (in_past b.past t.noted e (⊎_elim (λ (none : get b.past e.key ≡ None). absurd cc) (λ (none : get t.noted e.key ≡ None). none) (t.kept.apart e.key)) past))

  now_noted : (e : LogEntry) → IsStored b.now e → IsStored c.past e ⊎ (c.forgotten e.key ≡ true)
  now_noted e stored = by_noted (get t.noted e.key) refl
    where
      by_noted : (o : Option Body) → get t.noted e.key ≡ o → IsStored c.past e ⊎ (c.forgotten e.key ≡ true)
      by_noted (Some v) at =
          let had : get b.now e.key ≡ Some v = t.lags.has (entry_under (e.key, v)) at in
          inl (subst (λ (m : Journal). IsStored m e) (sym t.past) (in_now b.past t.noted e (at ∙ (sym had ∙ stored))))
      by_noted None at = inr (t.forgotten e.key
          ∙ or_true (b.forgotten e.key) (is_some (get b.now e.key) && not (is_some (get t.noted e.key)))
          (ap (λ (o : Option Body). is_some o && not (is_some (get t.noted e.key))) stored
          ∙ ap (λ (o : Option Body). not (is_some o)) at))

  noted_turned : AllByRecursion (IsPastBut c.forgotten c.past) (b.now ∷ journals_of b.earlier)
  noted_turned = (now_noted, past_but_more b.forgotten c.forgotten b.past c.past later_noted (journals_of b.earlier) is.noted)

  among_turned : AreApartBut c.forgotten (b.now ∷ journals_of b.earlier)
  among_turned = apart_but_more b.forgotten c.forgotten
      (λ k other. not_or (b.forgotten k) (is_some (get b.now k) && not (is_some (get t.noted k))) (sym (t.forgotten k) ∙ other))
      (b.now ∷ journals_of b.earlier) is.once

  pub turns : Leaves b [] [] c
  turns = record {
    stands = stands_if c begins_turned
        (λ e stored. subst (λ (ms : List Journal). IsInOne ms e) (sym earlier_turned) (backed_turned e stored))
        (subst (AllByRecursion (IsPastBut c.forgotten c.past)) (sym earlier_turned) noted_turned)
        (subst (AreApartBut c.forgotten) (sym earlier_turned) among_turned);
    acknowledged = none_answered c;
    stored = λ e one. inr (subst (λ (ms : List Journal). IsInOne ms e) (sym earlier_turned) one);
    owners = λ s machine owns. inl (ap (λ (f : Id128 → Option MachineDigest). f s) t.owner ∙ owns);
    forgotten = still_forgotten;
    released = λ s was. ap (λ (f : Id128 → Bool). f s) t.released ∙ was;
  }

-- ---- databases that go

module _ (b c : Between) (is : Stands b) (x : Expiry b c) where
  begins_expired : MayBegin c
  begins_expired =
      subst (λ (f : Known). MayCatchUp f c.past c.now (Contains c.came)) (sym x.known)
      (subst (λ (m : Journal). MayCatchUp b.known m c.now (Contains c.came)) (sym x.past)
      (subst (λ (m : Journal). MayCatchUp b.known b.past m (Contains c.came)) (sym x.now)
      (subst (λ (es : List LogEntry). MayCatchUp b.known b.past b.now (Contains es)) (sym x.came) is.begins)))

  pub expires : Leaves b [] [] c
  expires = record {
    stands = stands_if c begins_expired
        (λ e stored. subst (λ (ms : List Journal). IsInOne ms e) (sym x.earlier) (is.backed e (subst (λ (m : Journal). IsStored m e) x.past stored)))
        (subst (λ (f : Key → Bool). AllByRecursion (IsPastBut f c.past) (journals_of c.earlier)) (sym x.forgotten)
        (subst (λ (m : Journal). AllByRecursion (IsPastBut b.forgotten m) (journals_of c.earlier)) (sym x.past)
        (subst (λ (ms : List Journal). AllByRecursion (IsPastBut b.forgotten b.past) ms) (sym x.earlier) is.noted)))
        (subst (λ (f : Key → Bool). AreApartBut f (journals_of c.earlier)) (sym x.forgotten)
        (subst (AreApartBut b.forgotten) (sym x.earlier) is.once.1));
    acknowledged = none_answered c;
    stored = λ e one. subst (λ (m : Journal). IsInOne (m ∷ journals_of c.earlier) e) (sym x.now)
        (subst (λ (ms : List Journal). IsInOne (b.now ∷ ms) e) (sym x.earlier) one);
    owners = λ s machine owns. inl (ap (λ (f : Id128 → Option MachineDigest). f s) x.owner ∙ owns);
    forgotten = λ k was. ap (λ (f : Key → Bool). f k) x.forgotten ∙ was;
    released = λ s was. ap (λ (f : Id128 → Bool). f s) x.released ∙ was;
  }

-- ---- notes that go

gone_known : (w : Bool) (o : Option EntryDigest) (k : Key) (v : Option Body) → o ≡ option_map (digest_under k) v
    → cond w None o ≡ option_map (digest_under k) (cond (not w) v None)
gone_known true o k v is = refl
gone_known false o k v is = is

module _ (keys : Key → Bool) (sequences : Id128 → Bool) (b c : Between) (is : Stands b) (f : Forgetting keys sequences b c) where
  stays : Key → Bool
  stays k = not (keys k)

  past_part : Journal
  past_part = retain_keys b.past stays

  noted_part : Journal
  noted_part = retain_keys is.begins.noted stays

  known_still : (k : Key) → IsKey k → c.known k ≡ known_of (union past_part noted_part) k
  unfolding stays past_part noted_part
  known_still k key =
      f.known k
      ∙ (gone_known (keys k) (b.known k) k (get (union b.past is.begins.noted) k) (is.begins.kept.noted k key)
      ∙ ap (λ (o : Option Body). option_map (digest_under k) o) (sym (part_union b.past is.begins.noted stays k)))

  apart_still : AreApart past_part noted_part
  unfolding past_part noted_part
  apart_still k = ⊎_elim
      (λ (none : get b.past k ≡ None). inl (part_none b.past stays k none))
      (λ (none : get is.begins.noted k ≡ None). inr (part_none is.begins.noted stays k none))
      (is.begins.kept.apart k)

  begins_still : MayCatchUp c.known past_part b.now (Contains b.came)
  unfolding past_part noted_part
  begins_still = record {
    noted = noted_part;
    kept = record {
      noted = known_still;
      apart = apart_still;
      have_come = λ e stored. is.begins.kept.have_come e (part_union_of b.past is.begins.noted stays e.key e.body stored);
    };
    lags = record {
      has = λ e stored. is.begins.lags.has e (part_of is.begins.noted stays e.key e.body stored);
      apart = λ k. ⊎_elim (λ (none : get b.past k ≡ None). inl (part_none b.past stays k none)) (λ none. inr none) (is.begins.lags.apart k);
    };
  }

  past_is : c.past ≡ past_part
  unfolding past_part stays
  past_is = f.past

  begins_forgotten : MayBegin c
  begins_forgotten =
      subst (λ (m : Journal). MayCatchUp c.known m c.now (Contains c.came)) (sym past_is)
      (subst (λ (m : Journal). MayCatchUp c.known past_part m (Contains c.came)) (sym f.now)
      (subst (λ (es : List LogEntry). MayCatchUp c.known past_part b.now (Contains es)) (sym f.came) begins_still))

  same_earlier : journals_of c.earlier ≡ journals_of b.earlier
  same_earlier = ap journals_of f.earlier

  forgotten_still : (k : Key) → b.forgotten k ≡ true → c.forgotten k ≡ true
  forgotten_still k was = f.forgotten k ∙ true_or (b.forgotten k) (keys k) was

  noted_still : (e : LogEntry) → IsStored b.past e ⊎ (b.forgotten e.key ≡ true) → IsStored c.past e ⊎ (c.forgotten e.key ≡ true)
  noted_still e (inr was) = inr (forgotten_still e.key was)
  noted_still e (inl past) = by_test (keys e.key) refl
    where
      by_test : (w : Bool) → keys e.key ≡ w → IsStored c.past e ⊎ (c.forgotten e.key ≡ true)
      by_test true at = inr (f.forgotten e.key ∙ or_true (b.forgotten e.key) (keys e.key) at)
      by_test false at = inl (ap (λ (m : Journal). get m e.key) f.past
          ∙ (part_get b.past (λ k. not (keys k)) e.key
          ∙ (ap (λ (w : Bool). cond (not w) (get b.past e.key) None) at ∙ past)))

  released_still : (s : Id128) → b.released s ≡ true → c.released s ≡ true
  released_still s was = f.released s ∙ true_or (b.released s) (sequences s) was

  owners_still : (s : Id128) (machine : MachineDigest) → b.owner s ≡ Some machine → (c.owner s ≡ Some machine) ⊎ (c.released s ≡ true)
  owners_still s machine owns = by_test (sequences s) refl
    where
      by_test : (w : Bool) → sequences s ≡ w → (c.owner s ≡ Some machine) ⊎ (c.released s ≡ true)
      by_test true at = inr (f.released s ∙ or_true (b.released s) (sequences s) at)
      by_test false at = inl (f.owner s at ∙ owns)

  pub forgets : Leaves b [] [] c
  unfolding past_part stays
  forgets = record {
    stands = stands_if c begins_forgotten
        (λ e stored. subst (λ (ms : List Journal). IsInOne ms e) (sym same_earlier)
        (is.backed e (part_of b.past stays e.key e.body (subst (λ (m : Journal). IsStored m e) past_is stored))))
        (subst (AllByRecursion (IsPastBut c.forgotten c.past)) (sym same_earlier)
        (past_but_more b.forgotten c.forgotten b.past c.past noted_still (journals_of b.earlier) is.noted))
        (subst (AreApartBut c.forgotten) (sym same_earlier)
        (apart_but_more b.forgotten c.forgotten (λ k other. not_or (b.forgotten k) (keys k) (sym (f.forgotten k) ∙ other))
        (journals_of b.earlier) is.once.1));
    acknowledged = none_answered c;
    stored = λ e one. subst (λ (m : Journal). IsInOne (m ∷ journals_of c.earlier) e) (sym f.now)
        (subst (λ (ms : List Journal). IsInOne (b.now ∷ ms) e) (sym same_earlier) one);
    owners = owners_still;
    forgotten = forgotten_still;
    released = released_still;
  }

-- ---- any step

pub steps_on : Laws → (step : Step) (b c : Between) → Stands b → NoneCollide (Contains c.came) → Leads step b c
    → Leaves b (answered_in step) (answers_of step) c
steps_on laws (Ends uploads answers) b c is none leads = ended laws uploads answers b c is none leads
steps_on laws (Stops uploads answers) b c is none leads = stopped laws uploads answers b c is none leads
steps_on laws (Turns fate) b c is none leads = turns laws fate b c is leads
steps_on laws Expires b c is none leads = expires b c is leads
steps_on laws (Forgets keys sequences) b c is none leads = forgets keys sequences b c is leads

pub step_comes : (step : Step) (b c : Between) → Leads step b c → (e : LogEntry) → Contains b.came e → Contains c.came e
step_comes (Ends uploads answers) b c leads = leads.leaves.comes
step_comes (Stops uploads answers) b c leads = leads.leaves.comes
step_comes (Turns fate) b c leads = λ e had. subst (λ (es : List LogEntry). Contains es e) (sym leads.came) had
step_comes Expires b c leads = λ e had. subst (λ (es : List LogEntry). Contains es e) (sym leads.came) had
step_comes (Forgets keys sequences) b c leads = λ e had. subst (λ (es : List LogEntry). Contains es e) (sym leads.came) had
