-- An upload of which nothing is told is taken up, or not.
use Rattle.std.proofs.Common.{None, rules}
use Rattle.jc_collector_answers.proofs.Refusing.{done_so, refused_taken, unread_taken, untold_taken}
use Rattle.jc_collector_answers.proofs.taking.take_bounded.Goals as goal

pub returns-in_default-clause-took : goal.returns-in_default-clause-took
returns-in_default-clause-took g c =
    done_so c.put_unread.result (λ put. unread_taken g.K.Keeper c.args.limits.now c.args.keeper.now None c.args.gathered.now.answers.items c.put_unread.new.gathered.answers.items put)
    c.put_unread.ensures.put

pub returns-in-Some-clause-took : goal.returns-in-Some-clause-took
returns-in-Some-clause-took g c =
    done_so c.put.result
    (λ put. refused_taken g.K.Keeper c.args.limits.now c.args.keeper.now c.in-Some.refusal (search rules) c.args.gathered.now.answers.items c.put.new.self.answers.items put)
    c.put.ensures.put

pub returns-in-None-clause-took : goal.returns-in-None-clause-took
returns-in-None-clause-took g c =
    done_so c.take.result
    (λ took. untold_taken c.one_saying.ensures g.K.Keeper c.args.limits.now _ c.args.keeper.now c.take.new.keeper c.args.gathered.now.answers.items c.take.new.self.answers.items took)
    c.take.ensures.took
