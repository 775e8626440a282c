-- There is one set of default limits.
use Rattle.std.proofs.Common.{◌≡◌, ◌∙◌, ℕ, sym, ap, subst}
use Rattle.std.proofs.Props.{props}
use Rattle.jc_base.specs.declared.limits.Limits.{Limits}
use Rattle.jc_base.specs.LimitBounds.{AreDefaults, AreLimits}
use Rattle.jc_collector_answers.specs.Collected.{ByDefault}

made : (name value fields entry file : ℕ) → AreLimits name value fields entry file → Limits
made name value fields entry file lawful = record { name = name; value = value; fields = fields; entry = entry; file = file; lawful = lawful }

limits_prop : (name value fields entry file : ℕ) → IsProp (AreLimits name value fields entry file)
limits_prop name value fields entry file = Prim.hlevel props

one_made : (n v f e l n' v' f' e' l' : ℕ) → n ≡ n' → v ≡ v' → f ≡ f' → e ≡ e' → l ≡ l' → (p : AreLimits n v f e l) (q : AreLimits n' v' f' e' l')
    → made n v f e l p ≡ made n' v' f' e' l' q
one_made n v f e l n' v' f' e' l' is-n is-v is-f is-e is-l p =
    subst (λ (n' : ℕ). (q : AreLimits n' v' f' e' l') → made n v f e l p ≡ made n' v' f' e' l' q) is-n
    (subst (λ (v' : ℕ). (q : AreLimits n v' f' e' l') → made n v f e l p ≡ made n v' f' e' l' q) is-v
    (subst (λ (f' : ℕ). (q : AreLimits n v f' e' l') → made n v f e l p ≡ made n v f' e' l' q) is-f
    (subst (λ (e' : ℕ). (q : AreLimits n v f e' l') → made n v f e l p ≡ made n v f e' l' q) is-e
    (subst (λ (l' : ℕ). (q : AreLimits n v f e l') → made n v f e l p ≡ made n v f e l' q) is-l
    (λ q. ap (λ (x : AreLimits n v f e l). made n v f e l x) (limits_prop n v f e l p q))))))

one_default : (limits other : Limits) → AreDefaults limits.name limits.value limits.fields limits.entry limits.file
    → AreDefaults other.name other.value other.fields other.entry other.file → limits ≡ other
unfolding made
one_default limits other is also =
    one_made limits.name limits.value limits.fields limits.entry limits.file other.name other.value other.fields other.entry other.file
    (is.name_is ∙ sym also.name_is) (is.value_is ∙ sym also.value_is) (is.fields_is ∙ sym also.fields_is) (is.entry_is ∙ sym also.entry_is)
    (is.file_is ∙ sym also.file_is) limits.lawful other.lawful

module _ (limits : Limits) (defaults : AreDefaults limits.name limits.value limits.fields limits.entry limits.file) where
  pub by_default : (Holds : Limits → Type 0) → Holds limits → ByDefault Holds
  by_default Holds holds other also = subst Holds (one_default limits other defaults also) holds
