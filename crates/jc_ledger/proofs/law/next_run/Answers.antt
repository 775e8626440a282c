use Rattle.std.proofs.Common.{◌∙◌}
use Rattle.jc_ledger.proofs.law.next_run.Goals as goal

pub returns : goal.returns
returns g c = λ sound past now kept left found may alike. record {
  noted = now;
  kept = record {
    noted = λ k key. alike k key ∙ (g.met.L.Ledger.durable c.args.ledger.now left sound may k ∙ kept.noted k key);
    apart = kept.apart;
    have_come = kept.have_come;
  };
  lags = record { has = λ e stored. stored; apart = kept.apart };
}
