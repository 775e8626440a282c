-- Notes that are added to those that wait.
use Rattle.std.proofs.Common.{◌≡◌, ◌≢◌, BTreeMap, List, [], ◌∷◌, Option, Some, None, length, refl, ap, ◌∙◌, arith, inl, inr, ⊎_elim}
use Rattle.std.specs.Option.{option_or}
use Rattle.std.specs.BTreeMap.{btree_map_len, get}
use Rattle.jc_base.specs.declared.id.Key.{Key}
use Rattle.jc_base.specs.Journal.{key_cmp}
use Rattle.jc_ledger.specs.declared.digest.EntryDigest.{EntryDigest}
use Rattle.jc_ledger.specs.Crash.{HasSome, IsBetween}
use Rattle.jc_ledger.specs.Known.{Known, with_notes}

either_first : (a b c : Option EntryDigest) → option_or (option_or a b) c ≡ option_or a (option_or b c)
either_first None b c = refl
either_first (Some d) b c = refl

module _ (waiting notes after : BTreeMap Key EntryDigest) (added : (k : Key) → get key_cmp after k ≡ with_notes notes (get key_cmp waiting) k) where
  pub with_added : (known : Known) (k : Key) → with_notes after known k ≡ with_notes notes (with_notes waiting known) k
  with_added known k = ap (λ (o : Option EntryDigest). option_or o (known k)) (added k) ∙ either_first (get key_cmp notes k) (get key_cmp waiting k) (known k)

  pub some_added : {before now : Known} → now ≡ before → {found : Known} → HasSome now after found → IsBetween before (with_notes notes (with_notes waiting before)) found
  some_added {before = before} same some k = ⊎_elim
      (λ h. inl (h ∙ ap (λ (f : Known). f k) same))
      (λ h. inr (h ∙ (ap (λ (f : Known). with_notes after f k) same ∙ with_added before k)))
      (some k)

-- ---- whether any wait

nothing_in : (es : List (Key × EntryDigest)) → length es ≡ 0 → es ≡ []
nothing_in [] none = refl
nothing_in (e ∷ es) none = absurd (omega (arith, none))

pub none_waits : (waiting : BTreeMap Key EntryDigest) → btree_map_len waiting ≡ 0 → waiting.entries ≡ []
none_waits waiting none = nothing_in waiting.entries none

pub some_wait : (waiting : BTreeMap Key EntryDigest) → (btree_map_len waiting ≡ 0 → ⊥) → waiting.entries ≢ []
some_wait waiting some none = some (ap length none)
