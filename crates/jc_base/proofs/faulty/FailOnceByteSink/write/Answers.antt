use Rattle.jc_base.specs.TurnLaws.{failing_turn}
use Rattle.jc_base.proofs.faulty.FailOnceByteSink.write.Goals as goal

pub returns-then-turn-clause-failures : goal.returns-then-turn-clause-failures
returns-then-turn-clause-failures g c =
    failing_turn (g.W.ByteSink.failures c.args.self.now.inner) c.args.self.now.passes c.turn.new.passes _ c.turn.ensures.counted (c.turn.ensures.fails.0 c.if-turn.true)
