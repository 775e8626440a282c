-- The worked list of steps, one by one.
use Rattle.std.proofs.Common.{◌≡◌, ◌⊎◌, ◌∙◌, ◌&&◌, ◌||◌, ◌+◌, ◌*◌, arith, Bool, true, false, cond, not, is_some, List, [], ◌∷◌, Option, Some, None, take, refl, sym, ap, subst, inl, inr, ⊎_elim}
use Rattle.std.specs.Option.{option_map, option_or}
use Rattle.std.specs.List.{Contains}
use Rattle.std.specs.FinMap.{empty, get, get-insert, insert, retain_keys}
use Rattle.std.proofs.lemmas.List.Elements.{Contains-append_cases, Contains-append_left, Contains-append_right}
use Rattle.jc_base.specs.declared.id.Key.{Key}
use Rattle.jc_base.specs.Journal.{Journal}
use Rattle.jc_base.specs.LogEntry.{LogEntry, Body}
use Rattle.jc_collect.specs.EachLaws.{gathers_none}
use Rattle.jc_keeper.specs.Agree.{IsStored}
use Rattle.jc_keeper.specs.KeyLaws.{key_eq, key_total, same_key, same_parts}
use Rattle.jc_keeper.specs.Listing.{entry_under}
use Rattle.jc_ledger.specs.declared.owner.MachineDigest.{MachineDigest}
use Rattle.jc_ledger.specs.Kept.{AreApart, IsKept, NoneCollide}
use Rattle.jc_ledger.specs.Known.{digest_under, known_of}
use Rattle.jc_ledger.specs.Lagging.{LagsBehind, MayCatchUp}
use Rattle.jc_ledger.specs.Owners.{Owner, machine_named}
use Rattle.jc_ledger.specs.Union.{union}
use Rattle.jc_ledger_files.specs.Owned.{owner_window}
use Rattle.jc_ledger_files.specs.Windows.{window_of}
use Rattle.jc_runs.specs.Between.{Aside, Between, Expired, Kept, database, nothing}
use Rattle.jc_runs.specs.Steps.{EndsRun, Expiry, Forgetting, LeadsOn, StopsRun, Turn}
use Rattle.jc_runs.specs.Worked.{IsWorked, acks, alone, of_its_window, of_lost, of_one, of_other, uncommitted, unread, worked}
use Rattle.jc_runs.specs.WorkedNotes.{is_numbered}
use Rattle.jc_runs.proofs.Course.{keeps_on, stands_at_first}
use Rattle.jc_runs.proofs.OneMore.{Reads, collects_new, has_it, it_is, only, small_lost, small_one, small_other, stores_new, stores_same}
use Rattle.jc_runs.proofs.Stepping.{Laws}
use Rattle.jc_runs.proofs.WorkedDeletion.{OneEach, may_delete}
use Rattle.jc_runs.proofs.Unions.{has_none, in_either, in_now, in_past, part_get, part_none, part_of, union_get, union_none, void}

-- ---- journals with one entry

unfoldable pub one_only : LogEntry → Journal
one_only e = insert empty e.key e.body

one_get : (e : LogEntry) (k : Key) (b : Bool) → key_eq k e.key ≡ b → get (one_only e) k ≡ cond b (Some e.body) None
unfolding one_only
one_get e k b is = get-insert key_total empty e.key e.body k ∙ (ap (λ (c : Bool). cond c (Some e.body) (get void k)) is ∙ ap (λ (o : Option Body). cond b (Some e.body) o) (has_none k))

pub has_one : (e : LogEntry) → IsStored (one_only e) e
unfolding one_only
has_one e = has_it empty e

is_one : (e x : LogEntry) → IsStored (one_only e) x → e ≡ x
is_one e x stored = by_key (key_eq x.key e.key) refl
  where
    by_key : (b : Bool) → key_eq x.key e.key ≡ b → e ≡ x
    by_key true is =
        let there : Some e.body ≡ Some x.body = sym (one_get e x.key true is) ∙ stored in
        let bodies : e.body ≡ x.body = cc in
        let keys : e.key ≡ x.key = sym (same_key x.key e.key is) in
        ap (λ (k : Key). entry_under (k, e.body)) keys ∙ ap (λ (b : Body). entry_under (x.key, b)) bodies
    by_key false is = absurd (let there : None ≡ Some x.body = sym (one_get e x.key false is) ∙ stored in cc)

pub none_but : (e : LogEntry) (k : Key) → key_eq k e.key ≡ false → get (one_only e) k ≡ None
none_but e k is = one_get e k false is

-- ---- the journals and what came

abbrev pub m1 : Journal
m1 = one_only of_one

abbrev pub m2 : Journal
m2 = one_only of_other

abbrev pub m3 : Journal
m3 = one_only of_lost

abbrev pub p1 : Journal
p1 = union empty m1

abbrev pub p2 : Journal
p2 = union p1 m2

abbrev pub p3 : Journal
p3 = union p2 empty

abbrev pub stays_there : Key → Bool
stays_there k = not (of_its_window (window_of k))

abbrev pub p4 : Journal
p4 = retain_keys p3 stays_there

abbrev pub came : List LogEntry
came = of_other ∷ of_one ∷ []

abbrev came_all : List LogEntry
came_all = of_lost ∷ came

came_one : Contains came of_one
came_one = Contains-append_right (of_other ∷ []) (of_one ∷ []) of_one (it_is of_one)

came_other : Contains came of_other
came_other = Contains-append_left (of_other ∷ []) (of_one ∷ []) of_other (it_is of_other)

in_came : (e : LogEntry) → Contains came e → (of_other ≡ e) ⊎ (of_one ≡ e)
in_came e inside = ⊎_elim (λ a. inl (only of_other e a)) (λ b. inr (only of_one e b)) (Contains-append_cases (of_other ∷ []) (of_one ∷ []) e inside)

came_too : (e : LogEntry) → Contains came e → Contains came_all e
came_too e inside = Contains-append_right (of_lost ∷ []) came e inside

of_m1 : (e : LogEntry) → IsStored m1 e → Contains came e
of_m1 e stored = subst (Contains came) (is_one of_one e stored) came_one

of_m2 : (e : LogEntry) → IsStored m2 e → Contains came e
of_m2 e stored = subst (Contains came) (is_one of_other e stored) came_other

of_m3 : (e : LogEntry) → IsStored m3 e → Contains came_all e
of_m3 e stored = subst (Contains came_all) (is_one of_lost e stored) (Contains-append_left (of_lost ∷ []) came of_lost (it_is of_lost))

not_in_none : {A : Type 0} (e : LogEntry) → IsStored empty e → A
not_in_none e stored = absurd (let nothing = has_none e.key in let there : get void e.key ≡ Some e.body = stored in cc)

in_p1 : (e : LogEntry) → IsStored p1 e → IsStored m1 e
in_p1 e stored = ⊎_elim (λ now. now) (λ past. not_in_none e past) (in_either empty m1 e stored)

of_p2 : (e : LogEntry) → IsStored p2 e → Contains came e
of_p2 e stored = ⊎_elim (λ now. of_m2 e now) (λ past. of_m1 e (in_p1 e past)) (in_either p1 m2 e stored)

of_p3 : (e : LogEntry) → IsStored p3 e → Contains came e
of_p3 e stored = ⊎_elim (λ now. not_in_none e now) (λ past. of_p2 e past) (in_either p2 empty e stored)

pub p1_get : (k : Key) → get m1 k ≡ None → get p1 k ≡ None
p1_get k none = union_get void m1 k ∙ (ap (λ (o : Option Body). option_or o (get void k)) none ∙ has_none k)

no_other : get m1 of_other.key ≡ None
no_other = none_but of_one of_other.key refl

pub no_one : get m2 of_one.key ≡ None
no_one = none_but of_other of_one.key refl

pub has_no_third : (k : Key) → key_eq k of_one.key ≡ false → key_eq k of_other.key ≡ false → get p2 k ≡ None
has_no_third k one other =
    union_get p1 m2 k ∙ (ap (λ (o : Option Body). option_or o (get p1 k)) (none_but of_other k other) ∙ p1_get k (none_but of_one k one))

pub no_lost : get p2 of_lost.key ≡ None
no_lost = has_no_third of_lost.key refl refl

gone_one : get p4 of_one.key ≡ None
gone_one = part_get p3 stays_there of_one.key

gone_lost : get p4 of_lost.key ≡ None
gone_lost = part_none p3 stays_there of_lost.key (union_none p2 of_lost.key no_lost)

apart_from : (past : Journal) (e : LogEntry) → get past e.key ≡ None → AreApart past (one_only e)
apart_from past e none k = by_key (key_eq k e.key) refl
  where
    by_key : (b : Bool) → key_eq k e.key ≡ b → (get past k ≡ None) ⊎ (get (one_only e) k ≡ None)
    by_key true is = inl (ap (get past) (same_key k e.key is) ∙ none)
    by_key false is = inr (none_but e k is)

apart_p1 : AreApart p1 m2
apart_p1 = apart_from p1 of_other (p1_get of_other.key no_other)

apart_p2 : AreApart p2 m3
apart_p2 = apart_from p2 of_lost no_lost

kept_as_known : (past now : Journal) (es : List LogEntry) → AreApart past now → ((e : LogEntry) → IsStored past e → Contains es e) → ((e : LogEntry) → IsStored now e → Contains es e)
    → IsKept (known_of (union past now)) past now (Contains es)
kept_as_known past now es apart of_past of_now = record {
  noted = λ k key. refl;
  apart = apart;
  have_come = λ e stored. ⊎_elim (λ here. of_now e here) (λ there. of_past e there) (in_either past now e stored);
}

pub with_none : (past : Journal) (k : Key) → get past k ≡ get (union past empty) k
with_none past k = sym (union_get past empty k ∙ ap (λ (o : Option Body). option_or o (get past k)) (has_none k))

-- Nothing of the present one is noted.
kept_none : (past : Journal) (es : List LogEntry) → ((e : LogEntry) → IsStored past e → Contains es e) → IsKept (known_of past) past empty (Contains es)
kept_none past es of_past = record {
  noted = λ k key. ap (λ (o : Option Body). option_map (digest_under k) o) (with_none past k);
  apart = λ k. inr (has_none k);
  have_come = λ e stored. ⊎_elim (λ here. not_in_none e here) (λ there. of_past e there) (in_either past empty e stored);
}

lags_whole : (past now : Journal) → AreApart past now → LagsBehind past empty now
lags_whole past now apart = record { has = λ e stored. not_in_none e stored; apart = apart }

-- ---- whom sequences belong to

unfoldable pub owned_if : (one other : Bool) → Option MachineDigest
owned_if true other = Some (machine_named (1 ∷ []))
owned_if false true = Some (machine_named (2 ∷ []))
owned_if false false = None

pub first_owner : Owner
first_owner s = owned_if (is_numbered 1 s) false

unfoldable pub both_owners : Owner
both_owners s = owned_if (is_numbered 1 s) (is_numbered 2 s)

stays_owned : (one other : Bool) (machine : MachineDigest) → owned_if one false ≡ Some machine → owned_if one other ≡ Some machine
unfolding owned_if
stays_owned true other machine owns = owns
stays_owned false other machine owns = absurd cc

-- ---- what there is between the steps

abbrev pub s1 : Between
s1 = record nothing { known = known_of (union empty m1); owner = first_owner; now = m1; came = of_one ∷ [] }

abbrev pub s2 : Between
s2 = record s1 { earlier = database Kept m1 ∷ []; past = p1; now = empty }

abbrev pub s3 : Between
s3 = record s2 { owner = both_owners; now = m2; came = came }

abbrev pub s4 : Between
s4 = record s3 { known = known_of (union p1 m2) }

abbrev pub s5 : Between
s5 = record s4 { earlier = database Kept m2 ∷ database Kept m1 ∷ []; past = p2; now = empty }

abbrev pub s6 : Between
s6 = record s5 { now = m3; came = came_all }

abbrev pub s7 : Between
s7 = record s6 {
  earlier = database Aside m3 ∷ database Kept m2 ∷ database Kept m1 ∷ [];
  past = p3;
  now = empty;
  forgotten = λ k. key_eq k of_lost.key;
}

abbrev pub s8 : Between
s8 = record s7 {
  known = λ k. cond (of_its_window (window_of k)) None (known_of (union p1 m2) k);
  owner = λ s. cond (of_its_window (owner_window s)) None (both_owners s);
  past = p4;
  forgotten = λ k. key_eq k of_lost.key || of_its_window (window_of k);
  released = λ s. of_its_window (owner_window s);
}

abbrev s9 : Between
s9 = record s8 { known = known_of (union p4 m1); now = m1 }

abbrev pub s10 : Between
s10 = record s9 { earlier = database Aside m3 ∷ database Kept m2 ∷ database Expired m1 ∷ [] }

nothing_there : (k : Key) → get (union empty empty) k ≡ None
nothing_there k = union_none empty k (has_none k)

kept_first : IsKept (known_of (union empty m1)) empty m1 (Contains (of_one ∷ []))
kept_first = kept_as_known empty m1 (of_one ∷ []) (λ k. inl (has_none k)) (λ e stored. not_in_none e stored)
    (λ e stored. subst (Contains (of_one ∷ [])) (is_one of_one e stored) (it_is of_one))

step1 : Reads → EndsRun (alone 1 of_one) (acks 1 1) nothing s1
unfolding one_only
step1 reads = record {
  leaves = record {
    earlier = refl;
    past = refl;
    forgotten = refl;
    released = refl;
    comes = λ e none. absurd (omega (arith, none.1));
    owners = λ s machine owns. absurd cc;
  };
  kept = λ begins apart. kept_first;
  stored = λ begins apart limits defaults. stores_new reads empty empty 1 1 1 small_one (nothing_there of_one.key) limits;
}

and_not : (b : Bool) → false ≡ (b && not b)
and_not true = refl
and_not false = refl

step2 : Turn Kept s1 s2
step2 = record {
  noted = m1;
  kept = kept_first;
  lags = record { has = λ e stored. stored; apart = λ k. inl (has_none k) };
  known = refl;
  owner = refl;
  earlier = refl;
  past = refl;
  now = refl;
  came = refl;
  forgotten = λ k. and_not (is_some (get m1 k));
  released = refl;
}

begins3 : MayCatchUp (known_of p1) p1 m2 (Contains came)
begins3 = record { noted = empty; kept = kept_none p1 came (λ e past. of_m1 e (in_p1 e past)); lags = lags_whole p1 m2 apart_p1 }

step3 : Reads → StopsRun (alone 2 of_other) (acks 2 1) s2 s3
unfolding one_only first_owner both_owners
step3 reads = record {
  leaves = record {
    earlier = refl;
    past = refl;
    forgotten = refl;
    released = refl;
    comes = λ e inside. subst (Contains came) (only of_one e inside) came_one;
    owners = λ s machine owns. stays_owned (is_numbered 1 s) (is_numbered 2 s) machine owns;
  };
  lags = λ begins apart. begins3;
  stored = λ begins apart limits defaults. record {
    ahead = alone 2 of_other;
    others = [];
    are = refl;
    front = acks 2 1;
    behind = [];
    whole = refl;
    last = union p1 m2;
    collected = stores_new reads p1 empty 2 2 (64 * 4096 + 1) small_other (union_none p1 of_other.key (p1_get of_other.key no_other)) limits;
    none = tt;
    more = gathers_none limits [] (union p1 m2) [] (union p1 m2) refl;
  };
}

pub kept_both : IsKept (known_of (union p1 m2)) p1 m2 (Contains came)
kept_both = kept_as_known p1 m2 came apart_p1 (λ e stored. of_m1 e (in_p1 e stored)) of_m2

step4 : Reads → EndsRun (None ∷ alone 1 of_one) (unread ∷ acks 1 0) s3 s4
step4 reads = record {
  leaves = record { earlier = refl; past = refl; forgotten = refl; released = refl; comes = λ e inside. inside; owners = λ s machine owns. owns };
  kept = λ begins apart. kept_both;
  stored = λ begins apart limits defaults. (
    union p1 m2,
    refl,
    stores_same reads (union p1 m2) 1 1 1 small_one (in_past p1 m2 of_one no_one (in_now empty m1 of_one (has_one of_one))) limits,
  );
}

step5 : Turn Kept s4 s5
step5 = record {
  noted = m2;
  kept = kept_both;
  lags = record { has = λ e stored. stored; apart = apart_p1 };
  known = refl;
  owner = refl;
  earlier = refl;
  past = refl;
  now = refl;
  came = refl;
  forgotten = λ k. and_not (is_some (get m2 k));
  released = refl;
}

kept6 : IsKept (known_of p2) p2 empty (Contains came_all)
kept6 = kept_none p2 came_all (λ e past. came_too e (of_p2 e past))

step6 : Reads → StopsRun (alone 3 of_lost) (uncommitted 3 ∷ []) s5 s6
unfolding one_only
step6 reads = record {
  leaves = record { earlier = refl; past = refl; forgotten = refl; released = refl; comes = came_too; owners = λ s machine owns. owns };
  lags = λ begins apart. record { noted = empty; kept = kept6; lags = lags_whole p2 m3 apart_p2 };
  stored = λ begins apart limits defaults. record {
    ahead = [];
    others = alone 3 of_lost;
    are = refl;
    front = [];
    behind = uncommitted 3 ∷ [];
    whole = refl;
    last = union p2 empty;
    collected = refl;
    none = tt;
    more = record {
      ahead = alone 3 of_lost;
      others = [];
      are = refl;
      would = acks 3 1;
      begin = (inl refl, tt);
      collected = (_, collects_new reads p2 empty 3 2 (64 * 4096 + 2) small_lost (union_none p2 of_lost.key no_lost) limits, refl);
    };
  };
}

-- Of what the database that is set aside has, nothing is noted.
unnoted : (k : Key) → key_eq k of_lost.key ≡ (is_some (get m3 k) && not (is_some (get void k)))
unnoted k = by_key (key_eq k of_lost.key) ∙ sym
    (ap (λ (o : Option Body). is_some o && not (is_some (get void k))) (one_get of_lost k (key_eq k of_lost.key) refl)
    ∙ ap (λ (o : Option Body). is_some (cond (key_eq k of_lost.key) (Some of_lost.body) None) && not (is_some o)) (has_none k))
  where
    by_key : (b : Bool) → b ≡ (is_some (cond b (Some of_lost.body) None) && true)
    by_key true = refl
    by_key false = refl

step7 : Turn Aside s6 s7
step7 = record {
  noted = empty;
  kept = kept6;
  lags = lags_whole p2 m3 apart_p2;
  known = refl;
  owner = refl;
  earlier = refl;
  past = refl;
  now = refl;
  came = refl;
  forgotten = unnoted;
  released = refl;
}

step8 : Forgetting (λ k. of_its_window (window_of k)) (λ s. of_its_window (owner_window s)) s7 s8
step8 = record {
  known = λ k. refl;
  owner = λ s stays. ap (λ (w : Bool). cond w None (both_owners s)) stays;
  earlier = refl;
  past = refl;
  now = refl;
  came = refl;
  forgotten = λ k. refl;
  released = λ s. refl;
}

kept_last : IsKept (known_of (union p4 m1)) p4 m1 (Contains came_all)
kept_last = kept_as_known p4 m1 came_all (apart_from p4 of_one gone_one)
    (λ e stored. came_too e (of_p3 e (part_of p3 stays_there e.key e.body stored))) (λ e stored. came_too e (of_m1 e stored))

step9 : Reads → EndsRun (alone 1 of_one) (acks 1 1) s8 s9
unfolding one_only
step9 reads = record {
  leaves = record { earlier = refl; past = refl; forgotten = refl; released = refl; comes = λ e inside. inside; owners = λ s machine owns. owns };
  kept = λ begins apart. kept_last;
  stored = λ begins apart limits defaults. stores_new reads p4 empty 1 1 1 small_one (union_none p4 of_one.key gone_one) limits;
}

step10 : Expiry s9 s10
step10 = record { known = refl; owner = refl; earlier = refl; past = refl; now = refl; came = refl; forgotten = refl; released = refl }

lost_unknown : known_of (union p4 m1) of_lost.key ≡ None
lost_unknown = ap (option_map (digest_under of_lost.key)) (union_get p4 m1 of_lost.key
    ∙ (ap (λ (o : Option Body). option_or o (get p4 of_lost.key)) (none_but of_one of_lost.key refl) ∙ gone_lost))

-- All of these entries have one body.
plain : (e : LogEntry) → Contains came_all e → e.body ≡ of_one.body
plain e inside = ⊎_elim (λ (a : Contains (of_lost ∷ []) e). is_plain of_lost refl (only of_lost e a))
    (λ b. ⊎_elim (is_plain of_other refl) (is_plain of_one refl) (in_came e b)) (Contains-append_cases (of_lost ∷ []) came e inside)
  where
    is_plain : (x : LogEntry) → x.body ≡ of_one.body → x ≡ e → e.body ≡ of_one.body
    is_plain x body is = sym (ap (λ (y : LogEntry). y.body) is) ∙ body

pub none_collide_all : NoneCollide (Contains came_all)
none_collide_all e f here there keys digests = same_parts e f keys (plain e here ∙ sym (plain f there))

pub none_collide : NoneCollide (Contains came)
none_collide e f here there = none_collide_all e f (came_too e here) (came_too f there)

pub leads_to_s4 : Reads → LeadsOn nothing (take 4 worked) s4
leads_to_s4 reads = (s1, step1 reads, (s2, step2, (s3, step3 reads, (s4, step4 reads, refl))))

pub leads_half : Reads → LeadsOn nothing (take 5 worked) s5
leads_half reads = (s1, step1 reads, (s2, step2, (s3, step3 reads, (s4, step4 reads, (s5, step5, refl)))))

pub leads_to_s6 : Reads → LeadsOn nothing (take 6 worked) s6
leads_to_s6 reads = (s1, step1 reads, (s2, step2, (s3, step3 reads, (s4, step4 reads, (s5, step5, (s6, step6 reads, refl))))))

pub leads_to_s7 : Reads → LeadsOn nothing (take 7 worked) s7
leads_to_s7 reads = (s1, step1 reads, (s2, step2, (s3, step3 reads, (s4, step4 reads, (s5, step5, (s6, step6 reads, (s7, step7, refl)))))))

pub leads_to_s8 : Reads → LeadsOn nothing (take 8 worked) s8
leads_to_s8 reads = (s1, step1 reads, (s2, step2, (s3, step3 reads, (s4, step4 reads, (s5, step5, (s6, step6 reads, (s7, step7, (s8, step8, refl))))))))

pub leads_there : Reads → LeadsOn nothing worked s10
leads_there reads = (
  s1,
  step1 reads,
  (s2, step2, (s3, step3 reads, (s4, step4 reads, (s5, step5, (s6, step6 reads, (s7, step7, (s8, step8, (s9, step9 reads, (s10, step10, refl))))))))),
)

pub it_is_worked : Laws → Reads → OneEach → (c : Between) × IsWorked c
unfolding both_owners is_numbered owned_if
it_is_worked laws reads one = (
  s10,
  record {
    leads = leads_there reads;
    apart = none_collide_all;
    again = has_one of_one;
    still = inr (inr (inl (has_one of_one)));
    went = refl;
    other = inr (inl (has_one of_other));
    stayed = refl;
    lost = inl (has_one of_lost);
    unknown = lost_unknown;
    went_aside = refl;
    owner = refl;
    owner_of_other = refl;
    kept = kept_last;
    keeps = keeps_on laws nothing s10 worked (leads_there reads) none_collide_all (stands_at_first laws.same);
    may = may_delete one;
  },
)
