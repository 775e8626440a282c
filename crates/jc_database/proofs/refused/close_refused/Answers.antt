-- Closed or not, a crash leaves what it might have left as the files were opened.
use Rattle.jc_database.proofs.Stopped.{no_more_stays}
use Rattle.jc_database.proofs.refused.close_refused.Goals as goal

pub returns : goal.returns
returns g c = record {
  left = λ before first from no_more clean usual image may.
      no_more_stays g.met.F.Store.settled g.met.F.StoreInFiles.clean_if_left before first from c.args.refused image
      (c.hand_back.ensures before clean usual image may) no_more;
}
