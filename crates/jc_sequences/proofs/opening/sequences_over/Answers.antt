use Rattle.std.proofs.Common.{List, ℕ, ap, sym, ◌∙◌}
use Rattle.jc_ledger_files.specs.NotesOf.{notes_of}
use Rattle.jc_ledger_files.specs.Noted.{noted}
use Rattle.jc_ledger_files.specs.Owned.{owner_of, owner_window}
use Rattle.jc_ledger_files.specs.Windows.{window_of}
use Rattle.jc_sequences.proofs.SeenNone.{seen_none}
use Rattle.jc_sequences.proofs.opening.sequences_over.Goals as goal

pub new-windows-requires : goal.new-windows-requires
new-windows-requires g c = λ _ w file left. (c.requires.windows.each w).only file left ∙ sym (c.requires.windows.each w).same

pub new-owners-requires : goal.new-owners-requires
new-owners-requires g c = λ _ w file left. (c.requires.owners.each w).only file left ∙ sym (c.requires.owners.each w).same

pub new-requires-2-clause-sound : goal.new-requires-2-clause-sound
new-requires-2-clause-sound g c =
    rw c.new-ledger.ensures.windows (rw c.new-ledger.ensures.owners (rw c.new-windows.ensures.folder (rw c.new-owners.ensures.folder (
      (c.new-windows.ensures.open, c.requires.windows.clean),
      (c.new-owners.ensures.open, c.requires.owners.clean),
    ))))

pub new-requires-2-clause-owners : goal.new-requires-2-clause-owners
new-requires-2-clause-owners g c = λ s.
    rw c.new-ledger.ensures.owners (rw c.new-owners.ensures.folder (ap (λ (file : List ℕ). owner_of (notes_of file)) (c.requires.owners.each (owner_window s)).same))

pub returns-clause-sound : goal.returns-clause-sound
returns-clause-sound g c =
    rw c.new-2.ensures (rw c.new-ledger.ensures.windows (rw c.new-ledger.ensures.owners (rw c.new-windows.ensures.folder (rw c.new-owners.ensures.folder (
      (c.new-windows.ensures.open, c.requires.windows.clean),
      (c.new-owners.ensures.open, c.requires.owners.clean),
    )))))

pub returns-clause-known : goal.returns-clause-known
returns-clause-known g c = λ k.
    rw c.new-2.ensures (rw c.new-ledger.ensures.windows (rw c.new-windows.ensures.folder (ap (λ (file : List ℕ). noted (notes_of file) k.seqnum) (c.requires.windows.each (window_of k)).same)))

pub returns-clause-owner : goal.returns-clause-owner
returns-clause-owner g c = λ s.
    rw c.new-2.ensures (rw c.new-ledger.ensures.owners (rw c.new-owners.ensures.folder (ap (λ (file : List ℕ). owner_of (notes_of file)) (c.requires.owners.each (owner_window s)).same)))

pub returns-clause-came : goal.returns-clause-came
returns-clause-came g c = λ e. rw c.new-2.ensures (rw c.new-ledger.ensures.witness (seen_none (g.A.Arrivals.before e) _ e c.new.ensures))
