-- A union whose notes were noted.
use Rattle.std.proofs.Common.{◌≡◌, subst}
use Rattle.jc_base.specs.LogEntry.{LogEntry}
use Rattle.jc_ledger.specs.Kept.{ComesToo, NoneCollide}

-- What holds of its devices held of them before.
pub held_before : {K L S : Type 0} (Holds : K → Type 0) (Noted : L → Type 0) (On : S → Type 0) (came : L → LogEntry → Type 0) (ledger noted : L)
    {present now : K} {shelf still : S} → now ≡ present → still ≡ shelf → (Noted noted → Noted ledger) → ComesToo (came ledger) (came noted)
    → Holds now × (Noted noted × (On still × NoneCollide (came noted)))
    → Holds present × (Noted ledger × (On shelf × NoneCollide (came ledger)))
held_before Holds Noted On came ledger noted same on was comes h =
    (subst Holds same h.0, (was h.1.0, (subst On on h.1.1.0, λ e f e_came f_came. h.1.1.1 e f (comes e e_came) (comes f f_came))))
