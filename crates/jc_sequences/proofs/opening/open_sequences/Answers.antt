use Rattle.jc_sequences.proofs.opening.open_sequences.Goals as goal

pub returns-in-Ok-clause-sound : goal.returns-in-Ok-clause-sound
returns-in-Ok-clause-sound g c = c.sequences_in.ensures.sound

pub returns-in-Ok-clause-known : goal.returns-in-Ok-clause-known
returns-in-Ok-clause-known g c = c.sequences_in.ensures.known

pub returns-in-Ok-clause-owner : goal.returns-in-Ok-clause-owner
returns-in-Ok-clause-owner g c = c.sequences_in.ensures.owner

pub returns-in-Ok-clause-came : goal.returns-in-Ok-clause-came
returns-in-Ok-clause-came g c = c.sequences_in.ensures.came
