-- A keeper keeps all that it had, one call after the other.
use Rattle.std.proofs.Common.{◌≡◌, inl, inr, subst, sym, ⊎_elim}
use Rattle.jc_base.specs.Journal.{Journal}
use Rattle.jc_keeper.specs.Agree.{IsStored}
use Rattle.jc_keeper.specs.declared.keeper.Keeper as keepers
use Rattle.jc_collector_answers.specs.Kept.{HasKept}

module _ {K : Type 0} (k : keepers.Ghosts K) where
  -- nothing was done
  pub kept_same : (keeper : K) → HasKept k keeper keeper
  kept_same keeper = record {
    was_sound = λ sound. sound;
    was_clean = λ clean. clean;
    stays_made = λ made. made;
    settled = λ was. was;
    stored = λ sound made e is. is;
    crash = λ clean made found may. inl may;
    recovers = λ clean made leaves. leaves;
  }

  pub kept_then : (old mid new : K) → HasKept k old mid → HasKept k mid new → HasKept k old new
  kept_then old mid new one other = record {
    was_sound = λ sound. one.was_sound (other.was_sound sound);
    was_clean = λ clean. one.was_clean (other.was_clean clean);
    stays_made = λ made. other.stays_made (one.stays_made made);
    settled = λ was. other.settled (one.settled was);
    stored = λ sound made e is. other.stored sound (one.stays_made made) e (one.stored (other.was_sound sound) made e is);
    crash = λ clean made found may.
        ⊎_elim (λ was. one.crash (other.was_clean clean) made found was)
        (λ added. inr (one.was_sound added.0, λ e is. added.1 e (one.stored added.0 made e is)))
        (other.crash clean (one.stays_made made) found may);
    recovers = λ clean made leaves. other.recovers clean (one.stays_made made) (one.recovers (other.was_clean clean) made leaves);
  }

  -- it was told something, of which nothing is seen
  pub kept_told : (old told : K) → k.journal told ≡ k.journal old → ((found : Journal) → k.may_leave told found → k.may_leave old found)
      → (k.sound told → k.sound old) → (k.clean told → k.clean old) → (k.made old → k.made told) → (k.settled old → k.settled told)
      → (k.leaves_journals old → k.leaves_journals told) → HasKept k old told
  kept_told old told same back sound clean made settled leaves = record {
    was_sound = sound;
    was_clean = clean;
    stays_made = made;
    settled = settled;
    stored = λ late is e stored. subst (λ (j : Journal). IsStored j e) (sym same) stored;
    crash = λ late is found may. inl (back found may);
    recovers = λ late is. leaves;
  }
