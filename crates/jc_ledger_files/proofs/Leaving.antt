-- What is seen of files may be left of them.
use Rattle.std.specs.Prelude.{◌≡◌, ◌^◌, ℕ, Bool, true, false, if◌then◌else◌, List, nat_lt}
use Rattle.std.proofs.Common.{arith, refl}
use Rattle.std.proofs.lemmas.Bool.{ltb-false, ltb-true}
use Rattle.jc_ledger_files.specs.declared.window_name.WindowName.{WindowName}
use Rattle.jc_ledger_files.specs.LeftFiles.{EachLeaves}

module _ (windows owners : WindowName → List ℕ) (one other : WindowName → List ℕ → Type 0)
    (stay : (w : WindowName) → one w (windows w)) (stay_too : (w : WindowName) → other w (owners w))
  where
    abbrev pub seen : WindowName → List ℕ
    seen w = if nat_lt w.window (2 ^ 51) then windows w else owners w

    pub seen_left : (w : WindowName) → EachLeaves one other w (seen w)
    seen_left w = by_test (nat_lt w.window (2 ^ 51)) refl
      where
        by_test : (b : Bool) → nat_lt w.window (2 ^ 51) ≡ b → EachLeaves one other w (if b then windows w else owners w)
        by_test true is = (λ before. stay w, λ behind. absurd (omega (arith, behind, ltb-true w.window (2 ^ 51) is)))
        by_test false is = (λ before. absurd (omega (arith, before, ltb-false w.window (2 ^ 51) is)), λ behind. stay_too w)
