-- The text reads as the entries that the database lists.
use Rattle.std.proofs.Common.{◌≡◌, ℕ, List, refl, subst}
use Rattle.std.specs.List.{All}
use Rattle.jc_base.specs.Journal.{Journal}
use Rattle.jc_base.specs.LogEntry.{IsEntry}
use Rattle.jc_base.specs.Reading.{Reading}
use Rattle.jc_export.specs.Cut.{ReadsBack}
use Rattle.jc_export.specs.Stream.{StreamReading}
use Rattle.jc_keeper.specs.Listing.{entries_of, export_text}
use Rattle.jc_collector.proofs.CatchingUp.{caught_nothing, caught_stopped, caught_told}
use Rattle.jc_collector.proofs.Given.{gives_all, never_stopped, over_all}
use Rattle.jc_collector.proofs.into_union.noting.note_text.Goals as goal

pub returns-in_default-clause-notes : goal.returns-in_default-clause-notes
returns-in_default-clause-notes g c = caught_nothing g.L.Ledger _ c.args.ledger.now _ _ refl

pub returns-in-Ok-catch_up-clause-notes : goal.returns-in-Ok-catch_up-clause-notes
returns-in-Ok-catch_up-clause-notes g c =
    let limits = c.default.result in
    let text = c.args.text.now in
    let reads : (m : Journal) → (text ≡ export_text m) × All IsEntry (entries_of m) → (r : Reading) → StreamReading limits 0 text r → ReadsBack limits (entries_of m) r =
    λ m lists r read. c.canonical_texts_read_back.ensures.whole limits 0 (entries_of m) r lists.1 (subst (λ (b : List ℕ). StreamReading limits 0 b r) lists.0 read) in
    caught_told g.L.Ledger _ _ _ _ (λ m lists. gives_all limits _ _ text m (reads m lists) c.new.ensures c.in-Ok.ensures.reading)
    c.in-Ok-catch_up.ensures.crash c.in-Ok-catch_up.caught c.in-Ok-catch_up.caught c.told.result c.in-Ok-catch_up.ensures.kept c.in-Ok-catch_up.ensures.call
    (λ m lists. over_all limits c.default.ensures _ _ text m (reads m lists) c.new.ensures c.in-Ok.ensures.reading) c.told.ensures

pub returns-in-Ok-catch_up-clause-store : goal.returns-in-Ok-catch_up-clause-store
returns-in-Ok-catch_up-clause-store g c = λ is. absurd (never_stopped c.in-Ok-catch_up.caught c.told.result _ c.told.ensures is)

pub returns-in-Ok-catch_up-clause-read : goal.returns-in-Ok-catch_up-clause-read
returns-in-Ok-catch_up-clause-read g c = λ is. never_stopped c.in-Ok-catch_up.caught c.told.result _ c.told.ensures is

pub returns-clause-notes : goal.returns-clause-notes
returns-clause-notes g c =
    let limits = c.default.result in
    let text = c.args.text.now in
    let reads : (m : Journal) → (text ≡ export_text m) × All IsEntry (entries_of m) → (r : Reading) → StreamReading limits 0 text r → ReadsBack limits (entries_of m) r =
    λ m lists r read. c.canonical_texts_read_back.ensures.whole limits 0 (entries_of m) r lists.1 (subst (λ (b : List ℕ). StreamReading limits 0 b r) lists.0 read) in
    caught_stopped g.L.Ledger _ _ _ _ (λ m lists. gives_all limits _ _ text m (reads m lists) c.new.ensures c.in-Ok.ensures.reading)
    c.in-Err.ensures.crash _ c.in-Err.stop _ c.in-Err.ensures.call refl

pub returns-in-Ok-catch_up-clause-owners : goal.returns-in-Ok-catch_up-clause-owners
returns-in-Ok-catch_up-clause-owners g c = c.in-Ok-catch_up.ensures.owners

pub returns-clause-owners : goal.returns-clause-owners
returns-clause-owners g c = c.in-Err.ensures.owners
