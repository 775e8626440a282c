-- A file is lent that was kept, or that is asked for first.
use Rattle.std.proofs.Common.{◌≡◌, ℕ, Bool, List, sym, ◌∙◌}
use Rattle.std.specs.Prelude.{Err, Ok, OnOk, Result}
use Rattle.jc_ledger_files.specs.declared.window_name.WindowName.{WindowName}
use Rattle.jc_ledger_files.specs.Files.{IsAsFound}
use Rattle.jc_ledger_files.specs.Lent.{AllStay, IsLent, OthersStay}
use Rattle.jc_sequences.specs.Closed.{IsAsked}

pub lent_asked : {D : Type 0} {seen : D → List ℕ} {may_leave : D → List ℕ → Type 0} {is_clean : D → Bool} {old new : D} {had : List ℕ} {left : List ℕ → Type 0}
    → IsAsked seen may_leave is_clean old new → IsLent (seen old) (may_leave old) had left → IsLent (seen new) (may_leave new) had left
lent_asked asked is = record { same = asked.same ∙ is.same; crash = λ c may. is.crash c (asked.crash c may) }

pub lent_found : {found had seen : List ℕ} {left may_leave : List ℕ → Type 0}
    → IsAsFound found had left → seen ≡ found → ((c : List ℕ) → may_leave c → c ≡ found) → IsLent seen may_leave had left
lent_found is same crash = record { same = same ∙ sym is.same; crash = λ c may. is.crash c (crash c may) }

pub others_of : {name : WindowName} {before now : WindowName → List ℕ} {left leaves : WindowName → List ℕ → Type 0}
    → AllStay before now left leaves → OthersStay name before now left leaves
others_of all = record { same = λ w apart. all.same w; crash = λ w apart. all.crash w }

pub if_kept : {T E P Q : Type 0} (result : Result T E) → OnOk result P → (P → Q) → OnOk result Q
if_kept (Ok value) had next = next had
if_kept (Err error) had next = tt
