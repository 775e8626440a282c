-- A run that takes up one entry.
use Rattle.std.proofs.Common.{◌≡◌, ◌∙◌, ◌+◌, ◌*◌, ◌<◌, ◌^◌, arith, ℕ, Bool, true, false, cond, is_some, List, [], ◌∷◌, Option, Some, None, refl, sym, ap, subst, inl, inr, ⊎_elim}
use Rattle.std.specs.Option.{option_or}
use Rattle.std.specs.List.{All, Contains}
use Rattle.std.specs.List.Sorted.{IsStrictlySortedBy}
use Rattle.std.specs.FinMap.{get, get-insert, insert, len, len-insert, same_map}
use Rattle.std.proofs.lemmas.List.Elements.{All-from_recursion, Contains-append_right, Contains-push, Contains-push_cases}
use Rattle.jc_base.specs.declared.fault.Ending.TheVariants.{End}
use Rattle.jc_base.specs.declared.limits.Limits.{Limits}
use Rattle.jc_base.specs.Journal.{Journal}
use Rattle.jc_base.specs.Limit.{AreKept}
use Rattle.jc_base.specs.LogEntry.{IsEntry, LogEntry, Body}
use Rattle.jc_base.specs.Number.{IsId}
use Rattle.jc_base.specs.Reading.{Reading, reading}
use Rattle.jc_collect.specs.Each.{CollectsEach}
use Rattle.jc_collect.specs.Position.{Collects, IsPosition}
use Rattle.jc_export.specs.Computed.Lines.{reading_of}
use Rattle.jc_export.specs.Cut.{AllFit, ReadsBack, StopsBefore, joined as texts}
use Rattle.jc_export.specs.Stream.{StreamReading}
use Rattle.jc_keeper.specs.Absorb.{TakesWhole}
use Rattle.jc_keeper.specs.Agree.{Agree, HasBoth, IsStored, StandsIn}
use Rattle.jc_keeper.specs.KeyLaws.{key_eq, key_eq_equiv, key_exact, key_total, same_key, same_parts}
use Rattle.jc_ledger.specs.Union.{union}
use Rattle.jc_upload.specs.Head.{IsHead}
use Rattle.jc_upload.specs.Says.{SaysBehind}
use Rattle.jc_runs.specs.Worked.{ack_of, acks, alone, entry_at, head_of, numbered, upload_of}
use Rattle.jc_runs.proofs.Unions.{union_get}

pub only : (e x : LogEntry) → Contains (e ∷ []) x → e ≡ x
only e x inside = ⊎_elim (λ (none : Contains [] x). absurd (omega (arith, none.1))) (λ same. same) (Contains-push_cases [] e x inside)

pub it_is : (e : LogEntry) → Contains (e ∷ []) e
it_is e = Contains-push [] e

-- An entry agrees with a journal that has it, or hasn't its key.
agree_one : (m : Journal) (e : LogEntry) → ((b : Body) → get m e.key ≡ Some b → b ≡ e.body) → Agree m (e ∷ [])
agree_one m e same x y (inl sx) (inl sy) keys =
    same_parts x y keys (let there : get m x.key ≡ Some y.body = ap (get m) keys ∙ sy in let here : get m x.key ≡ Some x.body = sx in cc)
agree_one m e same x y (inl sx) (inr iy) keys =
    let is : e ≡ y = only e y iy in
    let there : get m e.key ≡ Some x.body = ap (get m) (sym (keys ∙ sym (ap (λ (z : LogEntry). z.key) is))) ∙ sx in
    same_parts x y keys (same x.body there ∙ ap (λ (z : LogEntry). z.body) is)
agree_one m e same x y (inr ix) (inl sy) keys =
    let is : e ≡ x = only e x ix in
    let there : get m e.key ≡ Some y.body = ap (get m) (ap (λ (z : LogEntry). z.key) is ∙ keys) ∙ sy in
    same_parts x y keys (sym (ap (λ (z : LogEntry). z.body) is) ∙ sym (same y.body there))
agree_one m e same x y (inr ix) (inr iy) keys = sym (only e x ix) ∙ only e y iy

-- ---- an upload of one entry

-- any bytes have a reading, and canonical texts are read back
pub record Reads : Type 0 where
  pub some : (limits : Limits) (at : ℕ) (bytes : List ℕ) → StreamReading limits at bytes (reading_of limits at bytes)
  pub back : (limits : Limits) (at : ℕ) (es : List LogEntry) (r : Reading) → All IsEntry es → StreamReading limits at (texts es) r → ReadsBack limits es r

-- A source and a sequence of one byte, and the number of an entry.
pub record AreSmall (source sequence n : ℕ) : Type 0 where
  pub byte : source < 256
  pub sequence_byte : sequence < 256
  pub some : 0 < n
  pub few : n < 2 ^ 63

pub small_one : AreSmall 1 1 1
small_one = record { byte = omega arith; sequence_byte = omega arith; some = omega arith; few = omega arith }

pub small_other : AreSmall 2 2 (64 * 4096 + 1)
small_other = record { byte = omega arith; sequence_byte = omega arith; some = omega arith; few = omega arith }

pub small_lost : AreSmall 3 2 (64 * 4096 + 2)
small_lost = record { byte = omega arith; sequence_byte = omega arith; some = omega arith; few = omega arith }

pub lawful_id : (n : ℕ) → n < 256 → IsId (numbered n).0
lawful_id n byte = (refl, All-from_recursion (λ (b : ℕ). b < 256) (numbered n).0 (byte, (omega arith, (omega arith, (omega arith, (omega arith, (omega arith, (omega arith, (omega arith, (omega arith, (omega arith, (omega arith, (omega arith, (omega arith, (omega arith, (omega arith, (omega arith, tt)))))))))))))))))

pub lawful_head : (source sequence n : ℕ) → AreSmall source sequence n → IsHead (head_of source)
lawful_head source sequence n small = record { source = lawful_id source small.byte; start = omega arith; number = omega arith }

lawful_entry : (source sequence n : ℕ) → AreSmall source sequence n → IsEntry (entry_at sequence n)
unfolding IsStrictlySortedBy
lawful_entry source sequence n small = record {
  key = record { id = lawful_id sequence small.sequence_byte; positive = small.some; small = small.few };
  body = record { realtime = omega arith; monotonic = omega arith; names = λ k d within. absurd (omega (arith, within)); values = λ k d within. absurd (omega (arith, within)); sorted = tt };
}

-- It reads as that entry.
reads_one : Reads → (limits : Limits) (source sequence n : ℕ) → AreSmall source sequence n
    → StreamReading limits 0 (texts (entry_at sequence n ∷ [])) (reading (entry_at sequence n ∷ []) (End 0))
reads_one reads limits source sequence n small =
    let e : LogEntry = entry_at sequence n in
    let some = reads.some limits 0 (texts (e ∷ [])) in
    ⊎_elim
    (λ (whole : AllFit limits (e ∷ []) × (reading_of limits 0 (texts (e ∷ [])) ≡ reading (e ∷ []) (End 0))).
    subst (StreamReading limits 0 (texts (e ∷ []))) whole.1 some)
    (λ (stops : StopsBefore limits (e ∷ []) (reading_of limits 0 (texts (e ∷ [])))). absurd (stops.beyond (fits stops)))
    (reads.back limits 0 (e ∷ []) (reading_of limits 0 (texts (e ∷ []))) (All-from_recursion IsEntry (e ∷ []) (lawful_entry source sequence n small, tt)) some)
  where
    fits : (stops : StopsBefore limits (entry_at sequence n ∷ []) (reading_of limits 0 (texts (entry_at sequence n ∷ [])))) → AreKept limits stops.first.body.pairs
    fits stops =
        let inside : Contains (entry_at sequence n ∷ []) stops.first = subst (λ (es : List LogEntry). Contains es stops.first) (sym stops.whole)
        (Contains-append_right _ (stops.first ∷ stops.more) stops.first (0, omega arith, refl)) in
        subst (λ (x : LogEntry). AreKept limits x.body.pairs) (only (entry_at sequence n) stops.first inside)
        (record { each = λ k d within. absurd (omega (arith, within)); number = omega arith; bytes = omega arith })

position : Reads → (limits : Limits) (before after : Journal) (source sequence n new : ℕ) → AreSmall source sequence n
    → TakesWhole before (reading (entry_at sequence n ∷ []) (End 0)) 1 new 0 after
    → IsPosition limits (upload_of source (entry_at sequence n)) before (ack_of source new) after
position reads limits before after source sequence n new small t = record {
  answers = record {
    head = head_of source;
    reading = it;
    says = says;
    named = refl;
    ended = refl;
    agrees = t.agrees;
    counted = refl;
    grown = (after, t.has, t.grown);
  };
  leaves = record { reading = it; says = inr (head_of source, says); has = t.has };
}
  where
    it : Reading
    it = reading (entry_at sequence n ∷ []) (End 0)

    says : SaysBehind limits (upload_of source (entry_at sequence n)) (head_of source) it
    says = record {
      body = texts (entry_at sequence n ∷ []);
      has = record { lawful = lawful_head source sequence n small; whole = refl };
      reads = record { read = it; reads = reads_one reads limits source sequence n small; under = refl };
    }

-- ---- one that is new

either : (b : Bool) (v : Body) (x y : Option Body) → cond b (Some v) (option_or x y) ≡ option_or (cond b (Some v) x) y
either true v x y = refl
either false v x y = refl

pub joined : (past now : Journal) (e : LogEntry) → union past (insert now e.key e.body) ≡ insert (union past now) e.key e.body
joined past now e = same_map key_total key_exact (union past (insert now e.key e.body)) (insert (union past now) e.key e.body)
    (λ k. union_get past (insert now e.key e.body) k
    ∙ (ap (λ (o : Option Body). option_or o (get past k)) (get-insert key_total now e.key e.body k)
    ∙ (sym (either (key_eq k e.key) e.body (get now k) (get past k))
    ∙ (ap (λ (o : Option Body). cond (key_eq k e.key) (Some e.body) o) (sym (union_get past now k))
    ∙ sym (get-insert key_total (union past now) e.key e.body k)))))

pub has_it : (m : Journal) (e : LogEntry) → get (insert m e.key e.body) e.key ≡ Some e.body
has_it m e = get-insert key_total m e.key e.body e.key ∙ ap (λ (b : Bool). cond b (Some e.body) (get m e.key)) (key_eq_equiv.refl e.key)

has_both : (m : Journal) (e : LogEntry) → get m e.key ≡ None → HasBoth m (e ∷ []) (insert m e.key e.body)
has_both m e none x = (λ stored. of_it (key_eq x.key e.key) refl stored, λ stands. ⊎_elim was new stands)
  where
    at : (b : Bool) → key_eq x.key e.key ≡ b → get (insert m e.key e.body) x.key ≡ cond b (Some e.body) (get m x.key)
    at b is = get-insert key_total m e.key e.body x.key ∙ ap (λ (c : Bool). cond c (Some e.body) (get m x.key)) is

    of_it : (b : Bool) → key_eq x.key e.key ≡ b → IsStored (insert m e.key e.body) x → StandsIn m (e ∷ []) x
    of_it true is stored =
        let bodies : e.body ≡ x.body = (let there : Some e.body ≡ Some x.body = sym (at true is) ∙ stored in cc) in
        inr (subst (Contains (e ∷ [])) (same_parts e x (sym (same_key x.key e.key is)) bodies) (it_is e))
    of_it false is stored = inl (sym (at false is) ∙ stored)

    was : IsStored m x → IsStored (insert m e.key e.body) x
    was stored = by_key (key_eq x.key e.key) refl
      where
        by_key : (b : Bool) → key_eq x.key e.key ≡ b → IsStored (insert m e.key e.body) x
        by_key true is = absurd (let nothing : get m x.key ≡ None = ap (get m) (same_key x.key e.key is) ∙ none in let there : get m x.key ≡ Some x.body = stored in cc)
        by_key false is = at false is ∙ stored

    new : Contains (e ∷ []) x → IsStored (insert m e.key e.body) x
    new inside = subst (IsStored (insert m e.key e.body)) (only e x inside) (has_it m e)

takes_new : (m : Journal) (e : LogEntry) → get m e.key ≡ None → TakesWhole m (reading (e ∷ []) (End 0)) 1 1 0 (insert m e.key e.body)
takes_new m e none = record {
  ended = refl;
  agrees = agree_one m e (λ b is. absurd (let nothing = none in cc));
  has = has_both m e none;
  counted = refl;
  grown = len-insert key_total m e.key e.body ∙ ap (λ (o : Option Body). cond (is_some o) (len m) (len m + 1)) none;
}

pub collects_new : Reads → (past now : Journal) (source sequence n : ℕ) → AreSmall source sequence n → get (union past now) (entry_at sequence n).key ≡ None
    → (limits : Limits) → Collects limits (Some (upload_of source (entry_at sequence n))) (union past now) (ack_of source 1)
    (union past (insert now (entry_at sequence n).key (entry_at sequence n).body))
collects_new reads past now source sequence n small none limits =
    let e : LogEntry = entry_at sequence n in
    position reads limits (union past now) (union past (insert now e.key e.body)) source sequence n 1 small
    (subst (TakesWhole (union past now) (reading (e ∷ []) (End 0)) 1 1 0) (sym (joined past now e)) (takes_new (union past now) e none))

pub stores_new : Reads → (past now : Journal) (source sequence n : ℕ) → AreSmall source sequence n → get (union past now) (entry_at sequence n).key ≡ None
    → (limits : Limits) → CollectsEach limits (alone source (entry_at sequence n)) (union past now) (acks source 1)
    (union past (insert now (entry_at sequence n).key (entry_at sequence n).body))
stores_new reads past now source sequence n small none limits = (
  union past (insert now (entry_at sequence n).key (entry_at sequence n).body),
  collects_new reads past now source sequence n small none limits,
  refl,
)

-- ---- one that is there

takes_same : (m : Journal) (e : LogEntry) → IsStored m e → TakesWhole m (reading (e ∷ []) (End 0)) 1 0 0 m
takes_same m e there = record {
  ended = refl;
  agrees = agree_one m e (λ b is. let stored : get m e.key ≡ Some e.body = there in cc);
  has = λ x. (λ stored. inl stored, λ stands. ⊎_elim (λ stored. stored) (λ inside. subst (IsStored m) (only e x inside) there) stands);
  counted = refl;
  grown = omega arith;
}

pub stores_same : Reads → (m : Journal) (source sequence n : ℕ) → AreSmall source sequence n → IsStored m (entry_at sequence n)
    → (limits : Limits) → CollectsEach limits (alone source (entry_at sequence n)) m (acks source 0) m
stores_same reads m source sequence n small there limits =
    (m, position reads limits m m source sequence n 0 small (takes_same m (entry_at sequence n) there), refl)
