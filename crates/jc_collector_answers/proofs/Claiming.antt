-- By which line a sequence came to belong to a machine.
use Rattle.std.proofs.Common.{◌≡◌, ◌⊎◌, ℕ, suc, List, [], ◌∷◌, ◌++◌, Option, Some, None, length, refl, ap, subst, sym, inl, inr, ⊎_elim, arith}
use Rattle.std.specs.FinMap.{get}
use Rattle.jc_base.specs.declared.id.Id128.{Id128}
use Rattle.jc_base.specs.declared.limits.Limits.{Limits}
use Rattle.jc_base.specs.Journal.{Journal}
use Rattle.jc_base.specs.LogEntry.{Body, LogEntry}
use Rattle.jc_collect.specs.Crash.{IsUnstored}
use Rattle.jc_collect.specs.Each.{CollectsEach}
use Rattle.jc_collect.specs.Position.{Collects}
use Rattle.jc_keeper.specs.Agree.{IsStored}
use Rattle.jc_keeper.specs.Claimed.{ClaimsFor, StoresNew}
use Rattle.jc_keeper.specs.Whose.{StayWhose, Whose}
use Rattle.jc_upload.specs.declared.answer.Answer.{Answer}
use Rattle.jc_upload.specs.declared.answer.Answer.TheVariants.{Ack, No}
use Rattle.jc_collector_answers.specs.Brought.{ClaimsByLines, CollectsLines, IsCause, SomeLine}
use Rattle.jc_collector_answers.specs.Named.{HasParts}
use Rattle.jc_collector_answers.specs.declared.name_lines.NameLines.{NameLines}

-- ---- a journal keeps what it has

abbrev pub Grows : (before after : Journal) → Type 0
Grows before after = (e : LogEntry) → IsStored before e → IsStored after e

pub grows_one : (limits : Limits) (known : Option (List ℕ)) (before : Journal) (answer : Answer) (after : Journal) → Collects limits known before answer after → Grows before after
grows_one limits None before (Ack source start count new left) after h e was = (h.1.has e).1 (inl was)
grows_one limits None before (No of code place) after h e was = subst (λ (m : Journal). IsStored m e) (sym h) was
grows_one limits (Some upload) before (Ack source start count new left) after h e was = (h.leaves.has e).1 (inl was)
grows_one limits (Some upload) before (No of code place) after h e was = subst (λ (m : Journal). IsStored m e) (sym h.leaves) was

pub grows_each : (limits : Limits) (known : List (Option (List ℕ))) (start : Journal) (answers : List Answer) (last : Journal) → CollectsEach limits known start answers last
    → Grows start last
grows_each limits [] start [] last h e was = subst (λ (m : Journal). IsStored m e) (sym h) was
grows_each limits [] start (answer ∷ answers) last h e was = absurd h
grows_each limits (k ∷ known) start [] last h e was = absurd h
grows_each limits (k ∷ known) start (answer ∷ answers) last h e was =
    grows_each limits known h.0 answers last h.2 e (grows_one limits k start answer h.0 h.1 e was)

new_before : (first mid last : Journal) → Grows mid last → (s : Id128) → StoresNew first mid s → StoresNew first last s
new_before first mid last grows s is = (is.0, (grows is.0 is.1.0, is.1.1))

new_behind : (first mid last : Journal) → Grows first mid → (s : Id128) → StoresNew mid last s → StoresNew first last s
new_behind first mid last grows s is = (is.0, (is.1.0, (none (get first is.0.key) refl, is.1.1.1)))
  where
    none : (found : Option Body) → get first is.0.key ≡ found → get first is.0.key ≡ None
    none None at = at
    none (Some body) at =
        let still : get mid is.0.key ≡ Some body = grows (record { key = is.0.key; body = body }) at in
        let was : get mid is.0.key ≡ None = is.1.1.0 in
        cc

-- ---- some line of several

some_wider : (Holds Wider : List ℕ → Answer → Type 0) → ((line : List ℕ) (answer : Answer) → Holds line answer → Wider line answer)
    → (names : List (List ℕ)) (answers : List Answer) → SomeLine Holds names answers → SomeLine Wider names answers
some_wider Holds Wider wider [] answers some = absurd some
some_wider Holds Wider wider (line ∷ names) [] some = absurd some
some_wider Holds Wider wider (line ∷ names) (answer ∷ answers) some =
    ⊎_elim (λ one. inl (wider line answer one)) (λ others. inr (some_wider Holds Wider wider names answers others)) some

some_before : (Holds : List ℕ → Answer → Type 0) (names others : List (List ℕ)) (answers more : List Answer) → SomeLine Holds names answers
    → SomeLine Holds (names ++ others) (answers ++ more)
some_before Holds [] others answers more some = absurd some
some_before Holds (line ∷ names) others [] more some = absurd some
some_before Holds (line ∷ names) others (answer ∷ answers) more some =
    ⊎_elim (λ one. inl one) (λ rest. inr (some_before Holds names others answers more rest)) some

some_behind : (Holds : List ℕ → Answer → Type 0) (names others : List (List ℕ)) (answers more : List Answer) → length answers ≡ length names
    → SomeLine Holds others more → SomeLine Holds (names ++ others) (answers ++ more)
some_behind Holds [] others [] more each some = some
some_behind Holds [] others (answer ∷ answers) more each some = absurd (omega (arith, each))
some_behind Holds (line ∷ names) others [] more each some = absurd (omega (arith, each))
some_behind Holds (line ∷ names) others (answer ∷ answers) more each some = inr (some_behind Holds names others answers more (omega (arith, each)) some)

pub lines_many : (told : List ℕ → Option (List ℕ)) (lines : NameLines) (Of : Whose) (names : List (List ℕ)) (start : Journal) (answers : List Answer) (last : Journal)
    → CollectsLines told lines Of names start answers last → length answers ≡ length names
lines_many told lines Of [] start [] last h = refl
lines_many told lines Of [] start (answer ∷ answers) last h = absurd h
lines_many told lines Of (line ∷ names) start [] last h = absurd h
lines_many told lines Of (line ∷ names) start (answer ∷ answers) last h = ap suc (lines_many told lines Of names h.0 answers last h.2)

-- ---- lines one after the other

module _ (lines : NameLines) where
  pub claims_none : (whose : Whose) (journal : Journal) → ClaimsByLines lines whose whose [] journal journal []
  claims_none whose journal owner s is = inl is

  pub claims_one : (line : List ℕ) (machine : Option (List ℕ)) (upload : List ℕ) → HasParts lines line machine upload → (old new : Whose) (start last : Journal) (answer : Answer)
      → ClaimsFor machine old new (λ s. StoresNew start last s ⊎ IsUnstored answer) → ClaimsByLines lines old new (line ∷ []) start last (answer ∷ [])
  claims_one line machine upload parts old new start last answer claims owner s is = ⊎_elim
      (λ was. inl was)
      (λ claimed. inr (inl (record { machine = machine; upload = upload; parts = parts; named = claimed.0; cause = claimed.1 })))
      (claims owner s is)

  causes_wider : (Is Other : Option (List ℕ) → Type 0) (Stored More : Type 0) → ((machine : Option (List ℕ)) → Is machine → Other machine) → (Stored → More)
      → (line : List ℕ) (answer : Answer) → IsCause lines Is Stored line answer → IsCause lines Other More line answer
  causes_wider Is Other Stored More is wider line answer one = record {
    machine = one.machine;
    upload = one.upload;
    parts = one.parts;
    named = is one.machine one.named;
    cause = ⊎_elim (λ stored. inl (wider stored)) (λ failed. inr failed) one.cause;
  }

  module _ (old mid new : Whose) (names : List (List ℕ)) (start : Journal) (answers : List Answer) where
    -- nothing comes to belong to anybody behind them
    pub claims_stayed : StayWhose mid new → StayWhose new mid → (last : Journal) → ClaimsByLines lines old mid names start last answers
        → ClaimsByLines lines old new names start last answers
    claims_stayed stays back last claims owner s is = ⊎_elim
        (λ was. inl was)
        (λ some. inr (some_wider (IsCause lines (λ machine. mid.same machine owner) (StoresNew start last s)) (IsCause lines (λ machine. new.same machine owner) (StoresNew start last s))
        (causes_wider (λ machine. mid.same machine owner) (λ machine. new.same machine owner) (StoresNew start last s) (StoresNew start last s)
        (λ machine same. stays.same machine owner same) (λ stored. stored)) names answers some))
        (claims owner s (back.belongs owner s is))

    -- others come behind them
    pub claims_both : (others : List (List ℕ)) (more : List Answer) (mid_journal last : Journal) → length answers ≡ length names → Grows start mid_journal → Grows mid_journal last → StayWhose mid new
        → ClaimsByLines lines old mid names start mid_journal answers → ClaimsByLines lines mid new others mid_journal last more
        → ClaimsByLines lines old new (names ++ others) start last (answers ++ more)
    claims_both others more mid_journal last each first then stays one other owner s is = ⊎_elim
        (λ was. ⊎_elim
        (λ before. inl before)
        (λ some. inr (some_before (IsCause lines (λ machine. new.same machine owner) (StoresNew start last s)) names others answers more
        (some_wider (IsCause lines (λ machine. mid.same machine owner) (StoresNew start mid_journal s)) (IsCause lines (λ machine. new.same machine owner) (StoresNew start last s))
        (causes_wider (λ machine. mid.same machine owner) (λ machine. new.same machine owner) (StoresNew start mid_journal s) (StoresNew start last s)
        (λ machine same. stays.same machine owner same) (new_before start mid_journal last then s)) names answers some)))
        (one owner s was))
        (λ some. inr (some_behind (IsCause lines (λ machine. new.same machine owner) (StoresNew start last s)) names others answers more each
        (some_wider (IsCause lines (λ machine. new.same machine owner) (StoresNew mid_journal last s)) (IsCause lines (λ machine. new.same machine owner) (StoresNew start last s))
        (causes_wider (λ machine. new.same machine owner) (λ machine. new.same machine owner) (StoresNew mid_journal last s) (StoresNew start last s)
        (λ machine same. same) (new_behind start mid_journal last first s)) others more some)))
        (other owner s is)
