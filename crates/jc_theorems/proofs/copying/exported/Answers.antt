-- The database is sound, and its connection is the keeper's.
use Rattle.std.proofs.Common.{◌≡◌, ap, subst, sym, ◌∙◌}
use Rattle.std.specs.List.{All}
use Rattle.sqlite.specs.declared.MemStore.{MemStore}
use Rattle.sqlite.specs.Held.{Held}
use Rattle.sqlite.specs.Steps.{over_memory}
use Rattle.jc_base.specs.Journal.{Journal}
use Rattle.jc_base.specs.LogEntry.{IsEntry}
use Rattle.jc_keeper.specs.Listing.{entries_of, export_text}
use Rattle.jc_store.specs.Meaning.{AreMade, journal_of}
use Rattle.jc_theorems.proofs.TakenUp.{has_written}
use Rattle.jc_theorems.proofs.copying.exported.Goals as goal

pub returns-in-Ok-clause-text : goal.returns-in-Ok-clause-text
returns-in-Ok-clause-text g c =
    let same = c.into_connection-conn.ensures.same in
    let sound = c.memory_is_sound.ensures in
    let made = subst (λ (conn : Held MemStore). AreMade g.L.Layout.meaning over_memory conn) (sym same) c.into_keeper.ensures.made in
    let journal = ap (λ (conn : Held MemStore). journal_of g.L.Layout.meaning over_memory conn) same ∙ c.into_keeper.ensures.journal in
    let listed = c.in-Ok.ensures.listed (sound _) made (sound _) in
    subst (λ (m : Journal). c.into_bytes.result.items ≡ export_text m) journal
    (has_written _ _ (export_text _) c.into_bytes.result.items c.new-sink.ensures.bytes c.into_bytes.ensures listed.0)

pub returns-in-Ok-clause-lawful : goal.returns-in-Ok-clause-lawful
returns-in-Ok-clause-lawful g c =
    let same = c.into_connection-conn.ensures.same in
    let sound = c.memory_is_sound.ensures in
    let made = subst (λ (conn : Held MemStore). AreMade g.L.Layout.meaning over_memory conn) (sym same) c.into_keeper.ensures.made in
    let journal = ap (λ (conn : Held MemStore). journal_of g.L.Layout.meaning over_memory conn) same ∙ c.into_keeper.ensures.journal in
    subst (λ (m : Journal). All IsEntry (entries_of m)) journal (c.in-Ok.ensures.lawful (sound _) made (sound _))
