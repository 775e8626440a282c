use Rattle.jc_theorems.proofs.memory_keeper.MemoryKeeperKeeper.get.Goals as goal

pub returns-clause-value : goal.returns-clause-value
returns-clause-value g c = λ _ _ _. rw (← c.self.view_is)
    (c.get.ensures.value (c.memory_is_sound.ensures _) c.self.invariant (c.memory_is_sound.ensures _))

pub returns-clause-same : goal.returns-clause-same
returns-clause-same g c = λ _ _ _. rw (← c.self.view_is)
    (c.get.ensures.same (c.memory_is_sound.ensures _) c.self.invariant (c.memory_is_sound.ensures _))
