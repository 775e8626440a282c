-- The upload in the file with this name is taken up, or can't be opened.
use Rattle.jc_collector_answers.proofs.Refusing.{done_so, unread_taken}
use Rattle.jc_collector_answers.proofs.taking.take_name.Goals as goal

pub returns-in_default-clause-took : goal.returns-in_default-clause-took
returns-in_default-clause-took g c =
    done_so c.put_unread.result (λ put. unread_taken g.K.Keeper c.args.limits.now c.args.keeper.now _ c.args.gathered.now.answers.items c.put_unread.new.gathered.answers.items put)
    c.put_unread.ensures.put
