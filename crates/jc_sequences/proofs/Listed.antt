-- Windows in the order of their keys, each once.
use Rattle.std.proofs.Common.{◌≡◌, ◌∙◌, ◌++◌, List, [], ◌∷◌, true, false, ap, arith, get_or, subst, sym}
use Rattle.std.specs.Prelude.{◌≢◌}
use Rattle.std.specs.BTreeMap.Range.{IsLtBy}
use Rattle.std.specs.List.{All, AllPairs}
use Rattle.std.specs.Ordering.{is_eq}
use Rattle.std.proofs.lemmas.List.Elements.{All-head, All-push, All-tail, All-weaker}
use Rattle.std.proofs.lemmas.List.Quantifiers.{all_pairs_push}
use Rattle.jc_base.specs.declared.id.Key.{Key}
use Rattle.jc_base.specs.Journal.{key_cmp}
use Rattle.jc_keeper.specs.KeyLaws.{key_eq_equiv}
use Rattle.jc_ledger_files.specs.declared.window_name.WindowName.{WindowName}

-- the window of a key whose number is the window's, and the key of a window
abbrev pub name_of : Key → WindowName
name_of key = record { sequence = key.seqnum_id; window = key.seqnum }

abbrev key_of : WindowName → Key
key_of name = record { seqnum_id = name.sequence; seqnum = name.window }

-- These are listed, each once, and none of them is a window of the keys that are left.
pub record AreListed (names : List WindowName) (left : List Key) : Type 0 where
  pub once : AllPairs (λ (one other : WindowName). one ≢ other) names
  pub apart : All (λ (name : WindowName). All (λ (key : Key). name ≢ name_of key) left) names

pub none_listed : (names : List WindowName) (left : List Key) → names ≡ [] → AreListed names left
none_listed names left none = subst (λ (ns : List WindowName). AreListed ns left) (sym none)
    (record { once = λ i j d before within. absurd (omega arith); apart = λ i d within. absurd (omega arith) })

below_differs : (key other : Key) → IsLtBy key_cmp key other → name_of key ≢ name_of other
below_differs key other below same =
    let less : IsLtBy key_cmp key key = subst (λ (k : Key). IsLtBy key_cmp key k) (sym (ap key_of same)) below in
    let clash : true ≡ false = sym (key_eq_equiv.refl key) ∙ ap is_eq less in
    cc

-- the first of those that are left
pub one_listed : (names : List WindowName) (key : Key) (before left : List Key) → before ≡ key ∷ left → All (IsLtBy key_cmp key) left
    → AreListed names before → AreListed (names ++ name_of key ∷ []) left
one_listed names key before left first above listed = record {
  once = all_pairs_push (λ (one other : WindowName). one ≢ other) names (name_of key) listed.once
      (λ i d within. All-head (λ (k : Key). get_or names i d ≢ name_of k) key left (behind (get_or names i d) (listed.apart i d within)));
  apart = All-push (λ (name : WindowName). All (λ (k : Key). name ≢ name_of k) left) names (name_of key)
      (All-weaker (λ (name : WindowName). All (λ (k : Key). name ≢ name_of k) before) (λ (name : WindowName). All (λ (k : Key). name ≢ name_of k) left)
      (λ name it. All-tail (λ (k : Key). name ≢ name_of k) key left (behind name it)) names listed.apart)
      (All-weaker (IsLtBy key_cmp key) (λ (k : Key). name_of key ≢ name_of k) (below_differs key) left above);
}
  where
    behind : (name : WindowName) → All (λ (k : Key). name ≢ name_of k) before → All (λ (k : Key). name ≢ name_of k) (key ∷ left)
    behind name it = subst (λ (ks : List Key). All (λ (k : Key). name ≢ name_of k) ks) first it
