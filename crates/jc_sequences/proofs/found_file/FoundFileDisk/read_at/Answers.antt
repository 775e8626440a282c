-- What was read is what the file has, if it was no lie.
use Rattle.std.proofs.Common.{refl}
use Rattle.std.proofs.lemmas.Bool.{and_parts}
use Rattle.jc_sequences.proofs.Calls.{read_holds}
use Rattle.jc_sequences.proofs.found_file.FoundFileDisk.read_at.Goals as goal

pub returns-in-Ok-clause-read : goal.returns-in-Ok-clause-read
returns-in-Ok-clause-read g c = rw c.in-Ok.ensures.noted (λ clean some. read_holds _ _ _ _ clean)

pub returns-in-Ok-clause-clean : goal.returns-in-Ok-clause-clean
returns-in-Ok-clause-clean g c = rw c.in-Ok.ensures.noted (λ is. (and_parts _ _ is).0)

pub returns-in-Ok-clause-seen : goal.returns-in-Ok-clause-seen
returns-in-Ok-clause-seen g c = rw c.in-Ok.ensures.noted refl

pub returns-in-Ok-clause-usable : goal.returns-in-Ok-clause-usable
returns-in-Ok-clause-usable g c = rw c.in-Ok.ensures.noted c.requires

pub returns-in-Ok-clause-crash : goal.returns-in-Ok-clause-crash
returns-in-Ok-clause-crash g c = rw c.in-Ok.ensures.noted (λ left may. may)

pub returns-in-Err-clause-clean : goal.returns-in-Err-clause-clean
returns-in-Err-clause-clean g c = rw c.in-Err.ensures.noted (λ is. (and_parts _ _ is).0)

pub returns-in-Err-clause-seen : goal.returns-in-Err-clause-seen
returns-in-Err-clause-seen g c = rw c.in-Err.ensures.noted refl

pub returns-in-Err-clause-usable : goal.returns-in-Err-clause-usable
returns-in-Err-clause-usable g c = rw c.in-Err.ensures.noted c.requires

pub returns-in-Err-clause-crash : goal.returns-in-Err-clause-crash
returns-in-Err-clause-crash g c = rw c.in-Err.ensures.noted (λ left may. may)
