use Rattle.jc_sequences.proofs.found_file.read.Goals as goal

pub returns-in-Ok-clause-made : goal.returns-in-Ok-clause-made
returns-in-Ok-clause-made g c = rw c.in-Some.is (λ clean some. c.in-Ok.ensures.read clean some)
