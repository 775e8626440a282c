-- Uploads that are taken up one after the other, and not yet stored together. (own)
use Rattle.std.proofs.Common.{◌≡◌, ◌⊎◌, ◌<◌, ◌≤◌, ℕ, zero, suc, IsTrue, List, [], ◌∷◌, ◌++◌, Option, None, refl, sym, subst, inl, inr, ⊎_elim, arith}
use Rattle.std.specs.Prelude.{◌↔◌}
use Rattle.std.proofs.lemmas.Bool.{cases_lt}
use Rattle.jc_base.specs.declared.fault.Code.{Code}
use Rattle.jc_base.specs.declared.fault.Code.TheVariants.{NotTheOwner, StoreFailed}
use Rattle.jc_base.specs.Device.{Rose, most_failures}
use Rattle.jc_base.specs.declared.limits.Limits.{Limits}
use Rattle.jc_base.specs.Journal.{Journal}
use Rattle.jc_keeper.specs.declared.keeper.Keeper as keepers
use Rattle.jc_upload.specs.declared.answer.Answer.{Answer}
use Rattle.jc_upload.specs.declared.answer.Answer.TheVariants.{Ack, No}
use Rattle.jc_collect.specs.Chain.{is_acknowledged}
use Rattle.jc_collect.specs.Each.{CollectsEach, Gathers, HoldsCollected, NoneAcknowledged, held}
use Rattle.jc_collect.specs.EachLaws.{collected_none, collected_one, collected_then, collects_then, gathers_before, gathers_next}
use Rattle.jc_collect.specs.Position.{HasCode}
use Rattle.jc_collect.specs.Run.{AreCaused}
use Rattle.jc_collect.specs.Taken.{HasCollected}
use Rattle.jc_collect.specs.Together.{HasCollectedAll}

-- ---- causes of failures

rose_later : (a b c : ℕ) → Rose a b → b ≤ c → Rose a c
rose_later a b c rose more = record { never_falls = omega (arith, rose.never_falls, more); rises = λ small. later (rose.rises small) }
  where
    later : a < b → a < c
    later below = omega (arith, below, more)

rose_earlier : (a b c : ℕ) → a ≤ b → Rose b c → Rose a c
rose_earlier a b c less rose = record { never_falls = omega (arith, rose.never_falls, less); rises = λ small. by_place (cases_lt b most_failures) small }
  where
    by_place : (b < most_failures) ⊎ (most_failures ≤ b) → a < most_failures → a < c
    by_place w small = ⊎_elim (λ below. from (rose.rises below)) (λ above. omega (arith, above, small, rose.never_falls)) w
      where
        from : b < c → a < c
        from below = omega (arith, less, below)

caused_more : (code : Code) (answers : List Answer) (a : Answer) (P Q : Type 0) → (P → Q) → AreCaused code answers (λ _. P) → (HasCode a code → Q)
    → AreCaused code (answers ++ a ∷ []) (λ _. Q)
caused_more code [] a P Q wider so_far one zero x at has = let same : a ≡ x = cc in one (subst (λ (y : Answer). HasCode y code) (sym same) has)
caused_more code [] a P Q wider so_far one (suc i) x at has = cc
caused_more code (y ∷ answers) a P Q wider so_far one zero x at has = wider (so_far zero x at has)
caused_more code (y ∷ answers) a P Q wider so_far one (suc i) x at has =
    caused_more code answers a P Q wider (λ k z there of. so_far (suc k) z there of) one i x at has

-- ---- none of them is acknowledged

none_front : (answers : List Answer) (a : Answer) → NoneAcknowledged (answers ++ a ∷ []) → NoneAcknowledged answers
none_front [] a none = tt
none_front (Ack source start count new left ∷ answers) a none = absurd none
none_front (No of code place ∷ answers) a none = none_front answers a none

none_last : (answers : List Answer) (a : Answer) → NoneAcknowledged (answers ++ a ∷ []) → ¬ IsTrue (is_acknowledged a)
none_last [] (Ack source start count new left) none acks = none
none_last [] (No of code place) none acks = cc
none_last (Ack source start count new left ∷ answers) a none acks = none
none_last (No of code place ∷ answers) a none acks = none_last answers a none acks

module _ {K : Type 0} (k : keepers.Ghosts K) (limits : Limits) where
  pub all_none : (keeper : K) → HasCollectedAll k limits [] keeper keeper []
  all_none keeper = record {
    was_sound = λ is. is;
    was_clean = λ is. is;
    stays_made = λ is. is;
    settled = λ was none. was;
    collected = λ is is_made. refl;
    found = λ is is_made left may. inl may;
    at_once = λ once is is_made. collected_none limits (held (k.journal keeper) (k.sound keeper) (k.may_leave keeper));
    recovers = λ is is_made leaves. leaves;
    owner = λ i a at has. cc;
    never_falls = omega arith;
    stores = λ i a at has. cc;
  }

  module _ (known : List (Option (List ℕ))) (old mid new : K) (answers : List Answer) (so_far : HasCollectedAll k limits known old mid answers) where
    -- the keeper was told who brings what comes, of which nothing is seen
    pub all_told : k.journal new ≡ k.journal mid → (k.clean new ↔ k.clean mid) → (k.sound new ↔ k.sound mid) → (k.made new ↔ k.made mid)
        → (k.settled mid → k.settled new) → ((found : Journal) → k.may_leave new found ↔ k.may_leave mid found)
        → (k.leaves_journals new ↔ k.leaves_journals mid) → k.failures new ≡ k.failures mid → HasCollectedAll k limits known old new answers
    all_told journal clean sound made settled crash recovers failures = record {
      was_sound = λ is. so_far.was_sound (sound.0 is);
      was_clean = λ is. so_far.was_clean (clean.0 is);
      stays_made = λ is. made.1 (so_far.stays_made is);
      settled = λ was none. settled (so_far.settled was none);
      collected = λ is is_made. collected_told (so_far.collected (sound.0 is) is_made);
      found = λ is is_made left may. so_far.found (clean.0 is) is_made left ((crash left).0 may);
      at_once = λ once is is_made.
          let was = so_far.at_once once (clean.0 is) is_made in
          record { collected = λ late. collected_told (was.collected (sound.0 late)); found = λ left may. was.found left ((crash left).0 may) };
      recovers = λ is is_made leaves. recovers.1 (so_far.recovers (clean.0 is) is_made leaves);
      owner = so_far.owner;
      never_falls = omega (arith, so_far.never_falls, failures);
      stores = λ i a at has. rose_later (k.failures old) (k.failures mid) (k.failures new) (so_far.stores i a at has) (omega (arith, failures));
    }
      where
        collected_told : CollectsEach limits known (k.journal old) answers (k.journal mid) → CollectsEach limits known (k.journal old) answers (k.journal new)
        collected_told each = subst (λ (m : Journal). CollectsEach limits known (k.journal old) answers m) (sym journal) each

    module _ (u : Option (List ℕ)) (a : Answer) (one : HasCollected k limits u mid new a)
        (durable : (found : Journal) → k.sound new → k.made new → k.settled new → k.may_leave new found → found ≡ k.journal new) (settles : k.at_once → k.settled new)
      where
        more_found : k.clean new → k.made old → (left : Journal) → k.may_leave new left
            → k.may_leave old left ⊎ (k.sound old × Gathers limits (known ++ u ∷ []) (k.journal old) (answers ++ a ∷ []) left)
        more_found is is_made left may = ⊎_elim
            (λ was. ⊎_elim
            (λ before. inl before)
            (λ gathered. inr (gathered.0, gathers_before limits known (k.journal old) answers (u ∷ []) (a ∷ []) left gathered.1))
            (so_far.found (one.was_clean is) is_made left was))
            (λ added. inr (
              so_far.was_sound added.0,
              gathers_next limits known (k.journal old) answers u a (k.journal mid) left (so_far.collected added.0 is_made) added.1,
            ))
            (one.crash is (so_far.stays_made is_made) left may)

        more_at_once : k.at_once → k.clean new → k.made old → HoldsCollected limits (known ++ u ∷ []) (held (k.journal old) (k.sound old) (k.may_leave old))
            (held (k.journal new) (k.sound new) (k.may_leave new)) (answers ++ a ∷ [])
        more_at_once once is is_made =
            let mid_made = so_far.stays_made is_made in
            collected_then limits known (u ∷ []) (held (k.journal old) (k.sound old) (k.may_leave old)) (held (k.journal mid) (k.sound mid) (k.may_leave mid))
            (held (k.journal new) (k.sound new) (k.may_leave new)) answers (a ∷ [])
            (so_far.at_once once (one.was_clean is) is_made)
            (collected_one limits u (held (k.journal mid) (k.sound mid) (k.may_leave mid)) (held (k.journal new) (k.sound new) (k.may_leave new)) a
            (λ late. one.position (one.was_sound late) mid_made late) (one.crash is mid_made) (one.acknowledged once is) one.was_sound
            (λ acks late found may. durable found late (one.stays_made mid_made) (settles once) may))
            so_far.was_sound one.was_sound

        -- one more was taken up, or not, and answered
        pub all_more : HasCollectedAll k limits (known ++ u ∷ []) old new (answers ++ a ∷ [])
        all_more = record {
          was_sound = λ is. so_far.was_sound (one.was_sound is);
          was_clean = λ is. so_far.was_clean (one.was_clean is);
          stays_made = λ is. one.stays_made (so_far.stays_made is);
          settled = λ was none. ⊎_elim (λ acks. absurd (none_last answers a none acks)) (λ is. is) (one.settled (so_far.settled was (none_front answers a none)));
          collected = λ is is_made.
              collects_then limits known (u ∷ []) (k.journal old) (k.journal mid) (k.journal new) answers (a ∷ []) (so_far.collected (one.was_sound is) is_made)
              (k.journal new, one.position (one.was_sound is) (so_far.stays_made is_made) is, refl);
          found = more_found;
          at_once = more_at_once;
          recovers = λ is is_made leaves. one.recovers is (so_far.stays_made is_made) (so_far.recovers (one.was_clean is) is_made leaves);
          owner = caused_more NotTheOwner answers a k.has_owners k.has_owners (λ owners. owners) so_far.owner one.owner;
          never_falls = omega (arith, so_far.never_falls, one.store.never_falls);
          stores = caused_more StoreFailed answers a (Rose (k.failures old) (k.failures mid)) (Rose (k.failures old) (k.failures new))
              (λ rose. rose_later (k.failures old) (k.failures mid) (k.failures new) rose one.store.never_falls) so_far.stores
              (λ code. rose_earlier (k.failures old) (k.failures mid) (k.failures new) so_far.never_falls (one.store.failed code));
        }
