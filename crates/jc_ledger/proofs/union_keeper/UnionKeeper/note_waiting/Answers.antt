use Rattle.std.proofs.Common.{◌≡◌, ◌∙◌, List, [], ap, inl, inr, sym, ⊎_elim}
use Rattle.std.specs.BTreeMap.{BTreeMap}
use Rattle.std.proofs.lemmas.Bool.{false≢true}
use Rattle.jc_base.specs.declared.id.Key.{Key}
use Rattle.jc_base.specs.Journal.{Journal}
use Rattle.jc_base.specs.LogEntry.{LogEntry}
use Rattle.jc_ledger.specs.declared.digest.EntryDigest.{EntryDigest}
use Rattle.jc_ledger.specs.Kept.{ComesToo, IsKept}
use Rattle.jc_ledger.specs.Known.{Known, with_notes}
use Rattle.jc_ledger.specs.LaggingLaws.{kept_alone, none_pending, noted_alone, noted_pending}
use Rattle.jc_ledger.proofs.Lagging.{kept_noted, widen}
use Rattle.jc_ledger.proofs.Adding.{none_waits, some_wait}
use Rattle.jc_ledger.proofs.union_keeper.UnionKeeper.note_waiting.Goals as goal

-- ---- nothing waited

nothing_waits : (waiting : BTreeMap Key EntryDigest) → waiting.entries ≡ [] → {known later : Known} {past now : Journal} {came comes : LogEntry → Type 0}
    → IsKept (with_notes waiting known) past now came → later ≡ known → ComesToo came comes → IsKept later past now comes
nothing_waits waiting none kept same comes = kept_noted (kept_alone waiting none kept) (λ k. ap (λ (f : Known). f k) same) comes

pub returns-then-is_empty-clause-noted : goal.returns-then-is_empty-clause-noted
returns-then-is_empty-clause-noted g c = λ none made sound.
    let begun = c.begin_or_shut.ensures.asks in
    nothing_waits c.args.self.now.waiting (none_waits c.args.self.now.waiting (c.is_empty.ensures.0 c.if-is_empty.true))
    (noted_pending c.args.self.now.pending.items none (made.1.1.1 (sound.0, (begun.call.was_sound sound.1.0, sound.1.1.0)))).kept
    (begun.same sound.1.0) begun.call.comes

pub returns-then-is_empty-clause-made : goal.returns-then-is_empty-clause-made
returns-then-is_empty-clause-made g c = λ none made.
    let begun = c.begin_or_shut.ensures.asks in
    let pending = c.args.self.now.pending.items in
    let empty = none_waits c.args.self.now.waiting (c.is_empty.ensures.0 c.if-is_empty.true) in (
      made.0,
      (
        made.1.0,
        (
          made.1.1.0,
          λ sound. none_pending pending none (noted_alone c.args.self.now.waiting empty
              (nothing_waits c.args.self.now.waiting empty
              (noted_pending pending none (made.1.1.1 (sound.0, (begun.call.was_sound sound.1.0, sound.1.1)))).kept (begun.same sound.1.0) begun.call.comes)),
        ),
      ),
    )

pub returns-then-is_empty-clause-recovers : goal.returns-then-is_empty-clause-recovers
returns-then-is_empty-clause-recovers g c = λ none clean leaves.
    let begun = c.begin_or_shut.ensures.asks in (
      leaves.0,
      λ now known in_database tells. ⊎_elim
          (λ left. widen (leaves.1 now known in_database (inl (begun.crash clean.1.0 known left))) begun.call.comes)
          (λ waits. absurd (waits.0 (none_waits c.args.self.now.waiting (c.is_empty.ensures.0 c.if-is_empty.true))))
          tells,
    )

pub returns-then-is_empty-clause-ledger : goal.returns-then-is_empty-clause-ledger
returns-then-is_empty-clause-ledger g c =
    let begun = c.begin_or_shut.ensures.asks in
    record { was = record { was_sound = begun.call.was_sound; was_clean = begun.call.was_clean }; comes = begun.call.comes; owners = begun.owners }

-- ---- what waited was noted, or was not

pub returns-clause-noted : goal.returns-clause-noted
returns-clause-noted g c = λ none made sound.
    let note = c.note_all.ensures in
    kept_noted (noted_pending c.args.self.now.pending.items none (made.1.1.1 (sound.0, (note.call.was_sound sound.1.0, sound.1.1.0)))).kept (note.noted sound.1.0) note.call.comes

pub returns-clause-made : goal.returns-clause-made
returns-clause-made g c = λ none made.
    let note = c.note_all.ensures in
    let pending = c.args.self.now.pending.items in (
      made.0,
      (
        made.1.0,
        (
          made.1.1.0,
          λ sound. none_pending pending none (noted_alone c.note_all.new.waiting note.none
              (kept_noted (noted_pending pending none (made.1.1.1 (sound.0, (note.call.was_sound sound.1.0, sound.1.1)))).kept (note.noted sound.1.0) note.call.comes)),
        ),
      ),
    )

pub returns-clause-recovers : goal.returns-clause-recovers
returns-clause-recovers g c = λ none clean leaves.
    let note = c.note_all.ensures in (
      leaves.0,
      λ now known in_database tells. ⊎_elim
          (λ left. widen (leaves.1 now known in_database (⊎_elim (λ was. inl was)
          (λ some. inr (some_wait c.args.self.now.waiting (λ zero. false≢true (sym c.if-is_empty.false ∙ c.is_empty.ensures.1 zero)), ((some.0, none), some.1)))
          (note.crash clean.1.0 known left))) note.call.comes)
          (λ noted. absurd (noted.0 note.none))
          tells,
    )

pub returns-clause-ledger : goal.returns-clause-ledger
returns-clause-ledger g c =
    let note = c.note_all.ensures in
    record { was = record { was_sound = note.call.was_sound; was_clean = note.call.was_clean }; comes = note.call.comes; owners = note.owners }
