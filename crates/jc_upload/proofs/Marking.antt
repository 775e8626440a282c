-- Points that are asked for, as positions are asked for and entries come.
use Rattle.std.proofs.Common.{◌≡◌, ◌≢◌, ◌∙◌, ◌⊎◌, inl, inr, eqb, get_or, take, drop, add-one, ℕ, ◌+◌, ◌<◌, ◌≤◌, ◌^◌, Bool, true, false, cond, List, [], ◌∷◌, ◌++◌, length, Option, Some, None, BTreeMap, refl, sym, ap, subst, arith}
use Rattle.std.proofs.Math.Seq.{drop-cons}
use Rattle.std.specs.Prelude.{IfSome, MatchOption}
use Rattle.std.specs.Option.{IsSome}
use Rattle.std.specs.Ordering.{nat_cmp}
use Rattle.std.specs.BTreeMap.{get, IsEmpty, Updates}
use Rattle.std.specs.List.{All}
use Rattle.std.proofs.lemmas.Bool.Decides.{eqb_tells}
use Rattle.std.proofs.lemmas.List.Elements.{All-more, All-weaker}
use Rattle.jc_base.specs.LogEntry.{LogEntry}
use Rattle.jc_base.specs.declared.id.Key.{Key}
use Rattle.jc_upload.specs.declared.answer.Answer.{Answer}
use Rattle.jc_upload.specs.declared.marks.Marks.{Marks}
use Rattle.jc_upload.specs.Marks.{AsksFor, IsAsked, IsMarked}
use Rattle.jc_upload.specs.Resume.{Point, start}
use Rattle.jc_upload.specs.Upload.{Sender, TakesAnswer, TakesAnswers, acked_to, point_behind}
use Rattle.jc_upload.proofs.Excerpts.{key_last, key_other, one_more}

abbrev point_of : ℕ → Option Key → Point
point_of n key = record { position = n; last = key }

if_either : {X : Type 0} (P : X → Type 0) (b : Bool) (v : X) (o : Option X) → P v → IfSome o P → IfSome (cond b (Some v) o) P
if_either P true v o new old = new
if_either P false v o new old = old

is_either : {X : Type 0} (b : Bool) (v : X) (o : Option X) → IsSome o → IsSome (cond b (Some v) o)
is_either true v o some = refl
is_either false v o some = some

-- what holds of the points holds with one more
pub each_with : (P : Point → Type 0) (m n : BTreeMap ℕ Point) (k : ℕ) (v : Point) → Updates nat_cmp m n k (Some v) → P v
    → ((q : ℕ) → IfSome (get nat_cmp m q) P) → (q : ℕ) → IfSome (get nat_cmp n q) P
each_with P m n k v updates new old q = subst (λ (o : Option Point). IfSome o P) (sym (updates.0 q)) (if_either P _ v (get nat_cmp m q) new (old q))

-- an empty map has no point
pub none_yet : (P : Point → Type 0) (m : BTreeMap ℕ Point) → IsEmpty m → (q : ℕ) → IfSome (get nat_cmp m q) P
none_yet P m empty q = rw empty tt

-- a position that was asked for still is, and so is the new one
pub still_asked : (m n : BTreeMap ℕ Point) (k : ℕ) (v : Point) → Updates nat_cmp m n k (Some v) → (q : ℕ) → IsSome (get nat_cmp m q) → IsSome (get nat_cmp n q)
still_asked m n k v updates q some = subst (λ (o : Option Point). IsSome o) (sym (updates.0 q)) (is_either _ v (get nat_cmp m q) some)

pub now_asked : (m n : BTreeMap ℕ Point) (k : ℕ) (v : Point) → Updates nat_cmp m n k (Some v) → IsSome (get nat_cmp n k)
now_asked m n k v updates = subst (λ (o : Option Point). IsSome o) (sym updates.1) refl

-- an answer that counts up to no number is none that counts up to a number
pub none_of : (o : Option ℕ) (x : ℕ) (C : Type 0) → MatchOption o (2 ^ 64 ≤ x) (λ n. n ≡ x) → ((n : ℕ) → o ≡ Some n → ⊥) → x < 2 ^ 64 → C
none_of None x C large none small = absurd (omega (arith, large, small))
none_of (Some n) x C large none small = absurd (none n refl)

-- where no entry came, the only point among them is the beginning
pub at_start : (o : Option Point) (n : ℕ) → n ≤ 0 → IfSome o (λ point. point ≡ start) → IfSome o (λ point. point ≡ point_behind [] n)
at_start None n within is = tt
at_start (Some point) n within is = is ∙ ap (λ (k : ℕ). point_behind [] k) (let none : 0 ≡ n = omega arith in none)

-- the positions that answers count up to are asked for, with one more answer
module _ (m n : BTreeMap ℕ Point) (keeps : (q : ℕ) → IsSome (get nat_cmp m q) → IsSome (get nat_cmp n q)) where
  pub ends_more : (answers : List Answer) (i : ℕ) (d : Answer) → i < length answers
      → All (λ answer. acked_to answer < 2 ^ 64 → IsSome (get nat_cmp m (acked_to answer))) (take i answers)
      → (acked_to (get_or answers i d) < 2 ^ 64 → IsSome (get nat_cmp n (acked_to (get_or answers i d))))
      → All (λ answer. acked_to answer < 2 ^ 64 → IsSome (get nat_cmp n (acked_to answer))) (take (i + 1) answers)
  ends_more answers i d within before here =
      All-more (λ answer. acked_to answer < 2 ^ 64 → IsSome (get nat_cmp n (acked_to answer))) answers i d within
      (All-weaker (λ answer. acked_to answer < 2 ^ 64 → IsSome (get nat_cmp m (acked_to answer))) (λ answer. acked_to answer < 2 ^ 64 → IsSome (get nat_cmp n (acked_to answer)))
      (λ answer asked small. keeps (acked_to answer) (asked small)) (take i answers) before) here

-- ---- entries that come

-- the marks of entries become those of one entry more
pub marks_more : (entries : List LogEntry) (e : LogEntry) (old new : Marks) → IsMarked entries old → new.count ≡ old.count + 1
    → IfSome (get nat_cmp new.points (old.count + 1)) (λ point. point ≡ record { position = old.count + 1; last = Some e.key })
    → ((n : ℕ) → n ≢ old.count + 1 → get nat_cmp new.points n ≡ get nat_cmp old.points n) → IsMarked (entries ++ e ∷ []) new
marks_more entries e old new is count here others = record {
  counted = count ∙ (ap (λ (n : ℕ). n + 1) is.counted ∙ sym (one_more entries e));
  points = λ n within. at n within (eqb_tells n (length entries + 1));
}
  where
    at : (n : ℕ) → n ≤ length (entries ++ e ∷ [])
        → ((eqb n (length entries + 1) ≡ true) × (n ≡ length entries + 1)) ⊎ ((eqb n (length entries + 1) ≡ false) × (n ≢ length entries + 1))
        → IfSome (get nat_cmp new.points n) (λ point. point ≡ point_behind (entries ++ e ∷ []) n)
    at n within (inl same) =
        let next : old.count + 1 ≡ n = omega (arith, is.counted, same.1) in
        let behind : point_behind (entries ++ e ∷ []) n ≡ record { position = n; last = Some e.key } =
        ap (λ (key : Option Key). point_of n key) (key_last entries e n same.1) in
        subst (λ (p : Point). IfSome (get nat_cmp new.points n) (λ point. point ≡ p)) (sym behind)
        (subst (λ (k : ℕ). IfSome (get nat_cmp new.points k) (λ point. point ≡ point_of k (Some e.key))) next here)
    at n within (inr apart) =
        let early : n ≤ length entries = let d = apart.1 in omega (arith, one_more entries e, within, d) in
        let other : n ≢ old.count + 1 = λ same. apart.1 (omega (arith, is.counted, same)) in
        let same : point_behind entries n ≡ point_behind (entries ++ e ∷ []) n =
        ap (λ (key : Option Key). point_of n key) (sym (key_other entries e n apart.1)) in
        subst (λ (o : Option Point). IfSome o (λ point. point ≡ point_behind (entries ++ e ∷ []) n)) (sym (others n other))
        (subst (λ (p : Point). IfSome (get nat_cmp old.points n) (λ point. point ≡ p)) same (is.points n early))

-- what was asked for stays so
pub asks_still : (position : ℕ) (answers : List Answer) (old new : Marks) → AsksFor position answers old → ((n : ℕ) → IsAsked old n → IsAsked new n) → AsksFor position answers new
asks_still position answers old new asks keeps = record {
  point = keeps position asks.point;
  ends = All-weaker (λ answer. acked_to answer < 2 ^ 64 → IsAsked old (acked_to answer)) (λ answer. acked_to answer < 2 ^ 64 → IsAsked new (acked_to answer))
      (λ answer asked small. keeps (acked_to answer) (asked small)) answers asks.ends;
}

-- ---- answers

-- one more answer was taken
pub takes_next : (entries : List LogEntry) (answers : List Answer) (i : ℕ) (d : Answer) (first before new : Sender) → i < length answers
    → TakesAnswer entries (get_or answers i d) before new
    → ((after : Sender) → TakesAnswers entries (drop i answers) before after → TakesAnswers entries answers first after)
    → (after : Sender) → TakesAnswers entries (drop (i + 1) answers) new after → TakesAnswers entries answers first after
takes_next entries answers i d first before new within takes all after rest =
    let cell : drop i answers ≡ get_or answers i d ∷ drop (i + 1) answers = rw (add-one, drop-cons answers i d) refl in
    all after (subst (λ (l : List Answer). TakesAnswers entries l before after) (sym cell) (new, takes, rest))
