-- The file of a window is taken out, closed and put back.
use Rattle.std.proofs.Common.{◌≡◌, ℕ, Bool, true, false, List, refl, ap, subst, ◌∙◌}
use Rattle.jc_base.specs.declared.id.Key.{Key}
use Rattle.jc_keeper.specs.KeyLaws.{same_key}
use Rattle.jc_ledger_files.specs.declared.window_name.WindowName.{WindowName}
use Rattle.jc_ledger_files.specs.Lent.{AllStay, IsBack, IsLent, OthersStay}
use Rattle.jc_ledger_files.specs.Windows.{same_window}

same_is : (a b : WindowName) → same_window a b ≡ true → a ≡ b
same_is a b same = ap (λ (k : Key). record { sequence = k.seqnum_id; window = k.seqnum })
    (same_key (record { seqnum_id = a.sequence; seqnum = a.window }) (record { seqnum_id = b.sequence; seqnum = b.window }) same)

pub all_stay : (name : WindowName) {before taken now : WindowName → List ℕ} {left taken_leaves leaves : WindowName → List ℕ → Type 0}
    {lent : List ℕ} {lent_leaves : List ℕ → Type 0} {file : List ℕ} {file_leaves : List ℕ → Type 0}
    → IsLent lent lent_leaves (before name) (left name) → OthersStay name before taken left taken_leaves
    → file ≡ lent → ((c : List ℕ) → file_leaves c → lent_leaves c)
    → IsBack name file file_leaves now leaves → OthersStay name taken now taken_leaves leaves → AllStay before now left leaves
all_stay name {before} {taken} {now} {left} {taken_leaves} {leaves} {lent} {lent_leaves} {file} {file_leaves} is lends same crash back stays = record {
  same = λ w. same_at w (same_window name w) refl;
  crash = λ w c may. crash_at w c may (same_window name w) refl;
}
  where
    same_at : (w : WindowName) (b : Bool) → same_window name w ≡ b → now w ≡ before w
    same_at w true at = back.same w at ∙ (same ∙ (is.same ∙ ap before (same_is name w at)))
    same_at w false at = stays.same w at ∙ lends.same w at

    crash_at : (w : WindowName) (c : List ℕ) → leaves w c → (b : Bool) → same_window name w ≡ b → left w c
    crash_at w c may true at = subst (λ (v : WindowName). left v c) (same_is name w at) (is.crash c (crash c (back.crash w at c may)))
    crash_at w c may false at = lends.crash w at c (stays.crash w at c may)
