use Rattle.jc_runs.proofs.Asking.{began_so, came_so}
use Rattle.jc_runs.proofs.worked.run_behind_four.Goals as goal

pub returns : goal.returns
returns g c =
    let at = c.runs_keep.ensures.starts.0 in record {
      step = (
        at.0,
        at.1,
        at.2,
        λ made kind begins. began_so at.0 _ at.3 _ at.4 made kind _ _ _ _ _ (at.1.began made kind _ _ _ _ _ begins),
        λ status back is. c.run_as_step.ensures.step at.0 at.1.begins (came_so at.0 _ at.4) status back is,
      );
    }
