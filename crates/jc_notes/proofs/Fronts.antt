-- Windows that lines name, each once.
use Rattle.std.proofs.Common.{◌≡◌, ◌∙◌, ◌++◌, ◌||◌, ◌+◌, ◌<◌, ℕ, Bool, true, false, cond, not, List, [], ◌∷◌, Option, Some, None, ap, arith, get_or, length, map, refl, subst, sym}
use Rattle.std.specs.Prelude.{IfSome}
use Rattle.std.specs.BTreeSet.{BTreeSet, Updates, contains}
use Rattle.std.specs.List.{Any, list_any}
use Rattle.std.proofs.lemmas.List.Folds.{Any-from_list_any, list_any-append, list_any_at}
use Rattle.std.proofs.lemmas.List.Quantifiers.{all_pairs_push}
use Rattle.jc_base.specs.declared.id.Key.{Key}
use Rattle.jc_base.specs.Journal.{key_cmp}
use Rattle.jc_command_shared.specs.Lines.{lines_of}
use Rattle.jc_keeper.specs.KeyLaws.{key_eq, key_eq_equiv, same_key}
use Rattle.jc_ledger_files.specs.declared.window_name.WindowName.{WindowName}
use Rattle.jc_notes.specs.Lines.{IsFirstBadFront, NameOnce, front_at}
use Rattle.jc_notes.specs.declared.lines.Front.{Front}
use Rattle.jc_notes.proofs.LinesRead.{AreReadSoFar, up_to}

-- its window as a key whose number is the window's
abbrev pub key_of : Front → Key
key_of front = record { seqnum_id = front.window.sequence; seqnum = front.window.window }

-- These are named so far, each once, and the set has their windows.
pub record AreNamed (fronts : List Front) (named : BTreeSet Key) : Type 0 where
  pub once : NameOnce fronts
  pub has : (q : Key) → contains key_cmp named q ≡ list_any (λ front. key_eq q (key_of front)) fronts

pub none_named : (fronts : List Front) (named : BTreeSet Key) → fronts ≡ [] → named.keys ≡ [] → AreNamed fronts named
none_named fronts named none empty = subst (λ (fs : List Front). AreNamed fs named) (sym none) (record {
  once = λ i j d before within. absurd (omega arith);
  has = λ q. ap (λ (keys : List Key). list_any (key_eq q) keys) empty;
})

module _ (fronts : List Front) (front : Front) (key : Key) (named : BTreeSet Key) (same : key ≡ key_of front) (so_far : AreNamed fronts named) where
  is_it : (other : Front) → other.window ≡ front.window → key_eq key (key_of other) ≡ true
  is_it other is =
      let other_key : key ≡ key_of other = same ∙ ap (λ (name : WindowName). record { seqnum_id = name.sequence; seqnum = name.window }) (sym is) in
      subst (λ (k : Key). key_eq key k ≡ true) other_key (key_eq_equiv.refl key)

  -- one more, which the set hadn't
  pub one_named : (now : BTreeSet Key) → true ≡ not (contains key_cmp named key) → Updates key_cmp named now key true → AreNamed (fronts ++ front ∷ []) now
  one_named now new updated = record {
    once = all_pairs_push (λ (one other : Front). one.window ≡ other.window → ⊥) fronts front so_far.once
        (λ k d within is.
        let found : list_any (λ f. key_eq key (key_of f)) fronts ≡ true = list_any_at (λ f. key_eq key (key_of f)) fronts k d within (is_it (get_or fronts k d) is) in
        let clash : true ≡ false = new ∙ ap not (so_far.has key ∙ found) in
        cc);
    has = λ q.
        updated.0 q
        ∙ ap (cond (key_eq key q) true) (so_far.has q)
        ∙ either (list_any (λ f. key_eq q (key_of f)) fronts) (key_eq key q)
        ∙ ap (λ (b : Bool). list_any (λ f. key_eq q (key_of f)) fronts || (b || false)) (key_eq_equiv.symm key q ∙ ap (key_eq q) same)
        ∙ sym (list_any-append (λ f. key_eq q (key_of f)) fronts (front ∷ []));
  }
    where
      either : (a b : Bool) → cond b true a ≡ (a || (b || false))
      either true true = refl
      either true false = refl
      either false true = refl
      either false false = refl

  -- the set had it
  pub named_again : false ≡ not (contains key_cmp named key) → Any (λ (other : Front). other.window ≡ front.window) fronts
  named_again old =
      let found : list_any (λ f. key_eq key (key_of f)) fronts ≡ true = sym (so_far.has key) ∙ is_true (contains key_cmp named key) old in
      let it = Any-from_list_any (λ f. key_eq key (key_of f)) fronts found in (
        it.0,
        it.1,
        it.2,
        it.3,
        ap (λ (k : Key). record { sequence = k.seqnum_id; window = k.seqnum }) (sym (same_key key (key_of it.1) it.4) ∙ same),
      )
    where
      is_true : (b : Bool) → false ≡ not b → b ≡ true
      is_true true is = refl
      is_true false is = is

-- The next line names no window, or one that was named.
pub one_bad_front : (text rest line behind : List ℕ) (fronts : List Front) (here : Option Front) (number : ℕ) → AreReadSoFar front_at text rest fronts
    → lines_of rest ≡ line ∷ lines_of behind → here ≡ front_at line → NameOnce fronts → IfSome here (λ front. Any (λ (other : Front). other.window ≡ front.window) fronts)
    → number ≡ length fronts + 1 → IsFirstBadFront text number
one_bad_front text rest line behind fronts here number so_far first is once again at = record {
  fronts = fronts;
  here = here;
  behind = map front_at (lines_of behind);
  lines = up_to front_at text rest line behind fronts so_far first here (sym is);
  once = once;
  again = again;
  is = at;
}
