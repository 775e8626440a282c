use Rattle.jc_sequences.proofs.opening.sequences_in.Goals as goal

pub returns-clause-sound : goal.returns-clause-sound
returns-clause-sound g c = c.sequences_over.ensures.sound

pub returns-clause-known : goal.returns-clause-known
returns-clause-known g c = c.sequences_over.ensures.known

pub returns-clause-owner : goal.returns-clause-owner
returns-clause-owner g c = c.sequences_over.ensures.owner

pub returns-clause-came : goal.returns-clause-came
returns-clause-came g c = c.sequences_over.ensures.came

pub sequences_over-requires-clause-windows : goal.sequences_over-requires-clause-windows
sequences_over-requires-clause-windows g c = c.new.ensures

pub sequences_over-requires-clause-owners : goal.sequences_over-requires-clause-owners
sequences_over-requires-clause-owners g c = c.new-2.ensures
