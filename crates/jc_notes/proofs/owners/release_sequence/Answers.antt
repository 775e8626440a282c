-- What is flushed then is what was printed.
use Rattle.std.proofs.Common.{inr}
use Rattle.jc_notes.proofs.Working.{err_is, on_ok, unseen, works_kept}
use Rattle.jc_notes.proofs.owners.release_sequence.Goals as goal

pub returns-clause-released : goal.returns-clause-released
returns-clause-released g c =
    on_ok c.printed.result
    (λ kept. record {
      sequence = c.in_ok-sequence.sequence;
      spelled = c.in_ok-sequence.ensures.id;
      does = works_kept _ _ _ _ _ c.in_ok-release_one.ensures.released kept.1;
    })
    c.printed.ensures.whole

pub returns-clause-stopped : goal.returns-clause-stopped
returns-clause-stopped g c =
    err_is c.printed.result (inr (record {
      sequence = c.in_ok-sequence.sequence;
      spelled = c.in_ok-sequence.ensures.id;
      does = inr (unseen c.in_ok-release_one.ensures.released);
    }))
