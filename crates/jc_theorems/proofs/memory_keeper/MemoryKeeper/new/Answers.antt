use Rattle.std.proofs.Common.{ℕ, ap, ◌∙◌}
use Rattle.std.specs.FinMap as finite
use Rattle.jc_base.specs.Journal.{Journal}
use Rattle.jc_theorems.specs.InMemory.{InMemory}
use Rattle.jc_theorems.proofs.memory_keeper.MemoryKeeper.new.Goals as goal

pub returns-in-Ok-create-clause-empty : goal.returns-in-Ok-create-clause-empty
returns-in-Ok-create-clause-empty g c =
    let made = c.in-Ok-create in
    let at : Journal → ℕ → InMemory = λ journal failures. record { journal = journal; failures = failures } in
    ap (λ journal. at journal made.keeper.failures) (made.ensures.empty (c.memory_is_sound.ensures made.keeper.conn))
    ∙ ap (λ failures. at finite.empty failures) made.ensures.failures
