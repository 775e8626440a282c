-- What a stop left of the present database is noted.
use Rattle.std.proofs.Common.{◌∙◌, inr, refl}
use Rattle.jc_collector.proofs.CatchingUp.{caught_nothing, caught_of}
use Rattle.jc_collector.proofs.Results.{at_ok, on_ok}
use Rattle.jc_collector.proofs.into_union.noting.note_listed.Goals as goal

pub returns-in-Ok-clause-notes : goal.returns-in-Ok-clause-notes
returns-in-Ok-clause-notes g c = caught_of g.L.Ledger _ _ c.note_text.ensures.notes
    (λ now lists. (c.deref.ensures.value ∙ at_ok c.args.text c.in-Ok.bytes _ c.in-Ok.is lists.0, on_ok c.args.text c.in-Ok.bytes _ c.in-Ok.is lists.1))

pub returns-in-Ok-clause-store : goal.returns-in-Ok-clause-store
returns-in-Ok-clause-store g c = λ is. inr (c.note_text.ensures.store is)

pub returns-in-Ok-clause-read : goal.returns-in-Ok-clause-read
returns-in-Ok-clause-read g c = λ is. absurd (c.note_text.ensures.read is)

pub returns-in-Err-clause-notes : goal.returns-in-Err-clause-notes
returns-in-Err-clause-notes g c = caught_nothing g.L.Ledger _ c.args.ledger.now _ c.in-Err.stop refl

pub returns-in-Ok-clause-owners : goal.returns-in-Ok-clause-owners
returns-in-Ok-clause-owners g c = c.note_text.ensures.owners
