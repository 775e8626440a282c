use Rattle.std.proofs.Common.{◌≡◌, ◌∙◌, ◌++◌, Bool, List, [], ◌∷◌, cond, sym, ap, subst}
use Rattle.std.specs.FinMap.{empty, insert}
use Rattle.jc_base.specs.LogEntry.{LogEntry}
use Rattle.jc_database.specs.Files.{HoldsJournal}
use Rattle.jc_store.specs.Meaning.{IsSound, journal_of}
use Rattle.jc_test_runs.proofs.Alone.{at_ok, if_some, took, was_ok}
use Rattle.jc_test_runs.proofs.filled.filled.Goals as goal

pub returns-in-Ok-Taken : goal.returns-in-Ok-Taken
returns-in-Ok-Taken g c =
    let entry = c.args.entry in
    let conn = c.absorb.new.self.conn in
    let is = sym c.ok-3.ensures.value ∙ c.in_ok-keeper.was in
    let made = at_ok c.create.result c.in_ok-keeper.keeper _ is c.create.ensures.made in
    let none = at_ok c.create.result c.in_ok-keeper.keeper _ is c.create.ensures.empty in
    let pushed = was_ok c.push_back.result _ (sym c.ok.ensures.value ∙ c.in_ok-ok.was) in
    let list : c.push_back.new.self.items ≡ entry ∷ [] =
    c.push_back.ensures.items ∙ (ap (λ (b : Bool). cond b (c.new-entries.result.items ++ entry ∷ []) c.new-entries.result.items) pushed
    ∙ ap (λ (es : List LogEntry). es ++ entry ∷ []) c.new-entries.ensures.items) in
    let alone : IsSound g.F.Store conn → journal_of g.L.Layout.meaning g.F.Store conn ≡ insert empty entry.key entry.body =
    λ sound. let before = c.in-Ok-Taken.ensures.before sound in
    took _ _ _ _ _ entry c.in-Ok-Taken.field-0 _ _ _ (none before) c.new-source.ensures.reading list c.in-Ok-Taken.field-0-is
    (c.in-Ok-Taken.ensures.step before made sound) in
    if_some c.ok-in-Ok-Taken.result c.close_keeper.result _ _ _ c.ok-in-Ok-Taken.ensures.value c.close_keeper.ensures.sound
    (c.close_keeper.ensures.keeps (c.in-Ok-Taken.ensures.made made))
    (λ files sound keeps clean. subst (HoldsJournal g.L.Layout.meaning (g.F.StoreInFiles.in_files.image files)) (alone (sound clean)) (keeps clean).now)
