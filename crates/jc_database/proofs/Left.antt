-- What a close or a stop leaves of a journal.
use Rattle.std.proofs.Common.{◌≡◌, IsTrue, sym, ap, subst, ◌∙◌}
use Rattle.std.proofs.Math.Logic.{∥∥₁_map}
use Rattle.sqlite.specs.Store.{Ghosts}
use Rattle.sqlite.specs.Recovery.{Image}
use Rattle.sqlite.specs.Tree.{Trees}
use Rattle.sqlite.specs.Effect.{Database, IsDatabase}
use Rattle.sqlite.specs.Held.{Held, state}
use Rattle.sqlite.specs.Files.{HoldsDatabase}
use Rattle.jc_base.specs.Journal.{Journal}
use Rattle.jc_store.specs.Meaning.{Meaning, IsSound, AreMade, journal_of}
use Rattle.jc_store.specs.Crash.{LeavesJournals, MayLeave}
use Rattle.jc_database.specs.Files.{AreLawful, HoldsJournal, InFiles, IsCopied, KeepsAlways}
use Rattle.jc_database.specs.Left.{IsLeftOf}

module _ {S : Type 0} {g : Ghosts S} (m : Meaning) (c : Held S) where
  module _ {C L : Type 0} {o : InFiles S C L} (files : C) (copied : IsCopied g o c files) where
    pub was_sound : IsSound g c
    was_sound = record { clean = copied.was_clean; is_open = copied.was_open }

    module _ (live : IsDatabase (state g c).now) (made : AreMade m g c) where
      holds : (image : Image) → ∥ HoldsDatabase image (state g c).committed.trees ∥₁ → HoldsJournal m image (journal_of m g c)
      holds image held =
          let has = made was_sound in
          record {
            database = (state g c).now;
            sound = live;
            holds = subst (λ (db : Database). ∥ HoldsDatabase image db.trees ∥₁) has.settled held;
            is_journal = has.journal;
            reads = λ i. journal_of m g c;
          }

      pub keeps_always : KeepsAlways m o files (journal_of m g c)
      keeps_always = record { now = holds _ copied.seen.both; left = λ image may. holds image (copied.left image may).both }

  -- ---- a crash

  module _ (last : S) (no_more : (db : Trees) → g.recovers last db → (state g c).may_leave db) where
    journal_on : AreLawful m → LeavesJournals m g c → (left : Image) (db : Trees) → g.recovers last db → HoldsDatabase left db
        → (found : Journal) × MayLeave m g c found × HoldsJournal m left found
    journal_on lawful journals left db may held =
        let (found, on) = journals.each db (no_more db may) in (
          found,
          record { trees = db; left = no_more db may; is = on },
          record {
            database = on.database;
            sound = lawful on.database on.is_journal;
            holds = ∣ subst (HoldsDatabase left) (sym on.trees_are) held ∣₁;
            is_journal = on.is_journal;
            reads = on.reads;
          },
        )

    module _ (left : Image) (again : ∥ ((db : Trees) × g.recovers last db × HoldsDatabase left db) ∥₁) where
      pub journal_left : AreLawful m → LeavesJournals m g c → IsLeftOf m g c left
      journal_left lawful journals = ∥∥₁_map again (λ it. journal_on lawful journals left it.0 it.1 it.2)

      -- of a connection that is sound
      pub durable_left : ((db : Trees) → IsTrue (state g c).is_open → (state g c).may_leave db → db ≡ (state g c).committed.trees)
          → IsSound g c → AreMade m g c → IsDatabase (state g c).now → HoldsJournal m left (journal_of m g c)
      durable_left settled sound made live =
          let has = made sound in
          record {
            database = (state g c).now;
            sound = live;
            holds = ∥∥₁_map again (λ it.
                subst (HoldsDatabase left)
                (settled it.0 sound.is_open (no_more it.0 it.1) ∙ ap (λ (d : Database). d.trees) has.settled) it.2);
            is_journal = has.journal;
            reads = λ i. journal_of m g c;
          }
