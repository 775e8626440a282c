use Rattle.std.proofs.Common.{inl}
use Rattle.jc_theorems.proofs.memory_keeper.MemoryKeeperKeeper.settle.Goals as goal

pub returns-clause-answered : goal.returns-clause-answered
returns-clause-answered g c = λ clean made ok. inl tt
