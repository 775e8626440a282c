use Rattle.std.proofs.Common.{◌∙◌, List, ap}
use Rattle.jc_ledger_files.specs.declared.window_note.WindowNote.{WindowNote}
use Rattle.jc_ledger_files.specs.Noted.{noted}
use Rattle.jc_ledger_files.specs.Owned.{owner_of, owner_window}
use Rattle.jc_ledger_files.specs.OwnersLaws.{window_before}
use Rattle.jc_ledger_files.specs.Windows.{window_of}
use Rattle.jc_ledger_files.proofs.law.next_run.Goals as goal

pub returns-clause-begins : goal.returns-clause-begins
returns-clause-begins g c = λ sound past now kept left may. record {
  noted = now;
  kept = record {
    noted = λ k key. ap (λ (ns : List WindowNote). noted ns k.seqnum)
        (g.met.W.Windows.durable c.args.ledger.now.windows (window_of k) (left (window_of k)) sound (may (window_of k) (window_before k key)))
        ∙ kept.noted k key;
    apart = kept.apart;
    have_come = kept.have_come;
  };
  lags = record { has = λ e stored. stored; apart = kept.apart };
}

pub returns-clause-owners : goal.returns-clause-owners
returns-clause-owners g c = λ sound left may s.
    ap owner_of (g.met.W.Windows.durable c.args.ledger.now.owners (owner_window s) (left (owner_window s)) sound (may s))
