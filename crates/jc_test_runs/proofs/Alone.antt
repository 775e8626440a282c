-- A journal that has one entry.
use Rattle.std.proofs.Common.{◌≡◌, ◌↔◌, ℕ, true, List, [], ◌∷◌, Option, Some, None, Ok, Err, IfSome, refl, sym, ap, subst, unwrap_or}
use Rattle.std.specs.Prelude.{Result, IfOk, is_ok}
use Rattle.std.specs.Result.{result_ok}
use Rattle.std.specs.FinMap.{empty, get, get-empty, insert, same_map}
use Rattle.jc_base.specs.declared.fault.Ending.{Ending}
use Rattle.jc_base.specs.Journal.{Journal, key_cmp}
use Rattle.jc_base.specs.LogEntry.{Body, LogEntry}
use Rattle.jc_base.specs.Reading.{Reading, reading}
use Rattle.jc_keeper.specs.declared.keeper.Absorbed.{Absorbed}
use Rattle.jc_keeper.specs.declared.keeper.Absorbed.TheVariants.{Taken}
use Rattle.jc_keeper.specs.Absorb.{Absorbs, Step, TakesWhole}
use Rattle.jc_keeper.specs.Agree.{HasBoth, IsStored}
use Rattle.jc_keeper.specs.KeyLaws.{key_exact, key_total}
use Rattle.jc_keeper.specs.Listing.{entry_under}
use Rattle.jc_keeper.specs.OneMoreLaws.{has_new}

-- ---- what an `ok` hands on

pub at_ok : {X E : Type 0} (r : Result X E) (x : X) (P : X → Type 0) → result_ok r ≡ Some x → IfOk r P → P x
at_ok (Ok y) x P is holds = subst P (ap (λ (o : Option _). unwrap_or o y) is) holds
at_ok (Err e) x P is holds = absurd cc

pub was_ok : {X E : Type 0} (r : Result X E) (x : X) → result_ok r ≡ Some x → is_ok r ≡ true
was_ok (Ok y) x is = refl
was_ok (Err e) x is = absurd cc

pub if_some : {X E : Type 0} (o : Option X) (r : Result X E) (A B Holds : X → Type 0) → o ≡ result_ok r → IfOk r A → IfOk r B
    → ((x : X) → A x → B x → Holds x) → IfSome o Holds
if_some o (Ok x) A B Holds is a b holds = subst (λ (p : Option _). IfSome p Holds) (sym is) (holds x a b)
if_some o (Err e) A B Holds is a b holds = subst (λ (p : Option _). IfSome p Holds) (sym is) tt

-- ---- journals

same_option : {X : Type 0} (o p : Option X) → ((x : X) → o ≡ Some x → p ≡ Some x) → ((x : X) → p ≡ Some x → o ≡ Some x) → o ≡ p
same_option (Some x) p f g = sym (f x refl)
same_option None None f g = refl
same_option None (Some x) f g = g x refl

same_journal : (m n : Journal) → ((e : LogEntry) → IsStored m e ↔ IsStored n e) → m ≡ n
same_journal m n h =
    same_map key_total key_exact m n (λ k. same_option (get m k) (get n k) (λ b. (h (entry_under (k, b))).0) (λ b. (h (entry_under (k, b))).1))

is_alone : (after : Journal) (e : LogEntry) → HasBoth empty (e ∷ []) after → after ≡ insert empty e.key e.body
is_alone after e has = same_journal after (insert empty e.key e.body) (λ f. (
  λ stored. (alone f).1 ((has f).0 stored),
  λ stored. (has f).1 ((alone f).0 stored),
))
  where
    alone : HasBoth empty (e ∷ []) (insert empty e.key e.body)
    alone = has_new empty e (get-empty {X = Body} key_cmp e.key)

-- An empty one took up a reading with this entry alone.
pub took : (before after : Journal) (known : Option Reading) (es : List LogEntry) (ending : Ending) (e : LogEntry) (absorbed : Absorbed) (count new left : ℕ)
    → before ≡ empty → known ≡ Some (reading es ending) → es ≡ e ∷ [] → absorbed ≡ Taken count new left → Absorbs before known (Ok absorbed) after
    → after ≡ insert empty e.key e.body
took before after known es ending e absorbed count new left none is list taken step =
    let over : Step before (reading es ending) absorbed after = subst (λ (o : Option Reading). Absorbs before o (Ok absorbed) after) is step in
    let whole : TakesWhole before (reading es ending) count new left after = subst (λ (a : Absorbed). Step before (reading es ending) a after) taken over in
    is_alone after e (subst (λ (m : Journal). HasBoth m (e ∷ []) after) none (subst (λ (xs : List LogEntry). HasBoth before xs after) list whole.has))
