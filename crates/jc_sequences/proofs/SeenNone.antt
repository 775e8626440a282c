-- A record of entries that has seen none.
use Rattle.std.proofs.Common.{◌≡◌, ◌⊎◌, ◌↔◌, List, [], inl, sym, subst, ⊎_elim, arith}
use Rattle.std.specs.List.{Contains}
use Rattle.jc_base.specs.LogEntry.{LogEntry}

pub seen_none : (Before : Type 0) (items : List LogEntry) (e : LogEntry) → items ≡ [] → (Before ⊎ Contains items e) ↔ Before
seen_none Before items e none = subst (λ (es : List LogEntry). (Before ⊎ Contains es e) ↔ Before) (sym none)
    (λ came. ⊎_elim (λ before. before) (λ (seen : Contains [] e). absurd (omega (arith, seen.1))) came, λ before. inl before)
