-- What a union has, and a part of a journal.
use Rattle.std.proofs.Common.{◌≡◌, ◌⊎◌, Bool, true, false, cond, List, [], ◌∷◌, Option, Some, None, refl, sym, ap, ◌∙◌, inl, inr}
use Rattle.std.specs.Option.{option_or}
use Rattle.std.specs.FinMap.{empty, entries, find, get, get-empty, get-entries, get-insert, get-retain_keys, retain_keys}
use Rattle.jc_base.specs.declared.id.Key.{Key}
use Rattle.jc_base.specs.Journal.{Journal, key_cmp}
use Rattle.jc_base.specs.LogEntry.{LogEntry, Body}
use Rattle.jc_keeper.specs.Agree.{IsStored}
use Rattle.jc_keeper.specs.KeyLaws.{key_eq, key_exact, key_total}
use Rattle.jc_ledger.specs.Union.{put_over, union}

either : (b : Bool) (v : Body) (x y z : Option Body) → x ≡ option_or y z → cond b (Some v) x ≡ option_or (cond b (Some v) y) z
either true v x y z is = refl
either false v x y z is = is

put_over_get : (m : Journal) (es : List (Key × Body)) (q : Key) → get (put_over m es) q ≡ option_or (find key_cmp q es) (get m q)
put_over_get m [] q = refl
put_over_get m (e ∷ es) q =
    get-insert key_total (put_over m es) e.0 e.1 q
    ∙ either (key_eq q e.0) e.1 (get (put_over m es) q) (find key_cmp q es) (get m q) (put_over_get m es q)

-- The present journal's entry, or else that of the past one.
pub union_get : (past now : Journal) (q : Key) → get (union past now) q ≡ option_or (get now q) (get past q)
unfolding union
union_get past now q = put_over_get past (entries now) q ∙ ap (λ (o : Option Body). option_or o (get past q)) (sym (get-entries now q))

pub in_now : (past now : Journal) (e : LogEntry) → IsStored now e → IsStored (union past now) e
in_now past now e is = union_get past now e.key ∙ ap (λ (o : Option Body). option_or o (get past e.key)) is

pub in_past : (past now : Journal) (e : LogEntry) → get now e.key ≡ None → IsStored past e → IsStored (union past now) e
in_past past now e none is = union_get past now e.key ∙ (ap (λ (o : Option Body). option_or o (get past e.key)) none ∙ is)

pub in_either : (past now : Journal) (e : LogEntry) → IsStored (union past now) e → IsStored now e ⊎ IsStored past e
in_either past now e stored = by_now (get now e.key) refl
  where
    same : (o : Option Body) → get now e.key ≡ o → option_or o (get past e.key) ≡ Some e.body
    same o is = sym (union_get past now e.key ∙ ap (λ (p : Option Body). option_or p (get past e.key)) is) ∙ stored

    by_now : (o : Option Body) → get now e.key ≡ o → IsStored now e ⊎ IsStored past e
    by_now None is = inr (same None is)
    by_now (Some b) is = inl (is ∙ same (Some b) is)

abbrev pub void : Journal
void = empty

pub has_none : (k : Key) → get void k ≡ None
has_none k = get-empty {X = Body} key_cmp k

pub union_none : (past : Journal) (k : Key) → get past k ≡ None → get (union past void) k ≡ None
union_none past k none = union_get past void k ∙ (ap (λ (o : Option Body). option_or o (get past k)) (has_none k) ∙ none)

-- A part of a journal has the keys that pass a test.
pub part_get : (m : Journal) (p : Key → Bool) (k : Key) → get (retain_keys m p) k ≡ cond (p k) (get m k) None
part_get m p k = get-retain_keys m p k (λ x alike. ap p (sym (key_exact k x alike)))

both : (b : Bool) (x y : Option Body) → option_or (cond b x None) (cond b y None) ≡ cond b (option_or x y) None
both true x y = refl
both false x y = refl

pub part_union : (past now : Journal) (p : Key → Bool) (k : Key)
    → get (union (retain_keys past p) (retain_keys now p)) k ≡ cond (p k) (get (union past now) k) None
part_union past now p k =
    union_get (retain_keys past p) (retain_keys now p) k
    ∙ (ap (λ (o : Option Body). option_or o (get (retain_keys past p) k)) (part_get now p k)
    ∙ (ap (λ (o : Option Body). option_or (cond (p k) (get now k) None) o) (part_get past p k)
    ∙ (both (p k) (get now k) (get past k) ∙ ap (λ (o : Option Body). cond (p k) o None) (sym (union_get past now k)))))

no_part : (b : Bool) (x : Option Body) → x ≡ None → cond b x None ≡ None
no_part true x none = none
no_part false x none = refl

pub part_none : (m : Journal) (p : Key → Bool) (k : Key) → get m k ≡ None → get (retain_keys m p) k ≡ None
part_none m p k none = part_get m p k ∙ no_part (p k) (get m k) none

of_part : (b : Bool) (x : Option Body) (v : Body) → cond b x None ≡ Some v → x ≡ Some v
of_part true x v is = is
of_part false x v is = absurd cc

pub part_of : (m : Journal) (p : Key → Bool) (k : Key) (v : Body) → get (retain_keys m p) k ≡ Some v → get m k ≡ Some v
part_of m p k v is = of_part (p k) (get m k) v (sym (part_get m p k) ∙ is)

pub part_union_of : (past now : Journal) (p : Key → Bool) (k : Key) (v : Body)
    → get (union (retain_keys past p) (retain_keys now p)) k ≡ Some v → get (union past now) k ≡ Some v
part_union_of past now p k v is = of_part (p k) (get (union past now) k) v (sym (part_union past now p k) ∙ is)
