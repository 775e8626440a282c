use Rattle.jc_theorems.proofs.memory_keeper.MemoryKeeperKeeper.absorb.Goals as goal

pub returns-clause-step : goal.returns-clause-step
returns-clause-step g c = λ _ _ _. rw (← c.self.view_is)
    (c.absorb.ensures.step (c.memory_is_sound.ensures _) c.self.invariant (c.memory_is_sound.ensures _))

pub invariant_of-self : goal.invariant_of-self
invariant_of-self g c = c.absorb.ensures.made c.self.invariant
