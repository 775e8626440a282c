-- Closed or not, a crash leaves what it might have left as the files were opened, or the tables alone.
use Rattle.jc_database.proofs.Stopped.{stays_or_made}
use Rattle.jc_database.proofs.refused.close_unmade.Goals as goal

pub returns : goal.returns
returns g c = record {
  left = λ lawful before first from blank early_if leaves clean usual image may.
      stays_or_made g.met.F.Store.settled g.met.F.StoreInFiles.clean_if_left before first from c.args.unmade image
      (c.hand_back.ensures before clean usual image may) g.L.Layout.meaning lawful blank early_if leaves;
}
