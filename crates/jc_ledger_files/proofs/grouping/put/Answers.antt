use Rattle.std.proofs.Common.{refl, sym, ◌∙◌}
use Rattle.jc_ledger_files.proofs.Batches.{along_pushes}
use Rattle.jc_ledger_files.proofs.Going.{goes_answer, goes_fail, goes_refused, none_done}
use Rattle.jc_ledger_files.proofs.grouping.put.Goals as goal

pub returns-in_err-turn_to : goal.returns-in_err-turn_to
returns-in_err-turn_to g c = record {
  along = λ sound known all later along. none_done _ c.from_residual.result c.from_residual.ensures.0;
  on = goes_fail c.in_err-turn_to.ensures.on c.from_residual.result c.from_residual.ensures;
  crash = c.in_err-turn_to.ensures.crash;
}

pub returns-in_err-push : goal.returns-in_err-push
returns-in_err-push g c = record {
  along = λ sound known all later along. none_done _ c.from_residual-in_err-push.result c.from_residual-in_err-push.ensures.0;
  on = goes_refused c.in_ok-turn_to.ensures.on c.from_residual-in_err-push.result c.from_residual-in_err-push.ensures;
  crash = c.in_ok-turn_to.ensures.crash;
}

pub returns : goal.returns
returns g c = record {
  along = λ sound known all later along. along_pushes (c.in_ok-turn_to.ensures.along sound known all _ along)
      c.args.key c.args.digest later c.push.new.notes.items refl (sym (c.in_ok-turn_to.ensures.name ∙ c.window_of.ensures)) c.in_ok-push.ensures;
  on = goes_answer c.in_ok-turn_to.ensures.on _;
  crash = c.in_ok-turn_to.ensures.crash;
}
