-- They are stored, and then their lines are printed.
use Rattle.std.proofs.Common.{List, sym, subst}
use Rattle.jc_collect.specs.Together.{HasSettled}
use Rattle.jc_upload.specs.declared.answer.Answer.{Answer}
use Rattle.jc_collector_answers.proofs.grouped.answer_gathered.Goals as goal

pub returns-clause-gives : goal.returns-clause-gives
returns-clause-gives g c = record {
  given = c.answers.result.now;
  settled = subst (λ (l : List Answer). HasSettled g.K.Keeper c.args.keeper.now c.settle.new.keeper c.args.gathered.now.answers.items l) (sym c.answers.ensures) c.settle.ensures;
  printed = c.print_answers-printed.ensures.printed;
}
