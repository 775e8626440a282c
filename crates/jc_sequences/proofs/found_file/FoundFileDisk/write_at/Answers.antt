-- What was written is what the file has, and a crash may tear it.
use Rattle.std.proofs.Common.{refl}
use lib.Seq.{take-length}
use Rattle.jc_sequences.proofs.Calls.{follows, holds_written, torn_same, torn_written}
use Rattle.jc_sequences.proofs.found_file.FoundFileDisk.write_at.Goals as goal

pub returns-in-Ok-clause-written : goal.returns-in-Ok-clause-written
returns-in-Ok-clause-written g c = rw c.in-Ok.ensures.noted (λ some. holds_written _ _ _ (take-length c.args.bytes.now))

pub returns-in-Ok-clause-others : goal.returns-in-Ok-clause-others
returns-in-Ok-clause-others g c = rw c.in-Ok.ensures.noted (torn_written _ _ _ (take-length c.args.bytes.now))

pub returns-in-Ok-clause-crash : goal.returns-in-Ok-clause-crash
returns-in-Ok-clause-crash g c =
    rw c.in-Ok.ensures.noted (λ left may. follows _ c.args.bytes.now _ _ _ _ (torn_written _ _ _ (take-length c.args.bytes.now)) left may)

pub returns-in-Err-clause-crash : goal.returns-in-Err-clause-crash
returns-in-Err-clause-crash g c =
    rw c.in-Err.ensures.noted (λ left may. follows _ c.args.bytes.now _ _ _ _ (torn_same _ _ _) left may)

pub returns-in-Ok-clause-clean : goal.returns-in-Ok-clause-clean
returns-in-Ok-clause-clean g c = rw c.in-Ok.ensures.noted (λ is. is)

pub returns-in-Ok-clause-usable : goal.returns-in-Ok-clause-usable
returns-in-Ok-clause-usable g c = rw c.in-Ok.ensures.noted c.requires

pub returns-in-Ok-clause-calm : goal.returns-in-Ok-clause-calm
returns-in-Ok-clause-calm g c = rw c.in-Ok.ensures.noted refl

pub returns-in-Ok-clause-fair : goal.returns-in-Ok-clause-fair
returns-in-Ok-clause-fair g c = rw c.in-Ok.ensures.noted refl

pub returns-in-Err-clause-clean : goal.returns-in-Err-clause-clean
returns-in-Err-clause-clean g c = rw c.in-Err.ensures.noted (λ is. is)

pub returns-in-Err-clause-usable : goal.returns-in-Err-clause-usable
returns-in-Err-clause-usable g c = rw c.in-Err.ensures.noted c.requires

pub returns-in-Err-clause-calm : goal.returns-in-Err-clause-calm
returns-in-Err-clause-calm g c = rw c.in-Err.ensures.noted refl

pub returns-in-Err-clause-fair : goal.returns-in-Err-clause-fair
returns-in-Err-clause-fair g c = rw c.in-Err.ensures.noted refl

pub returns-in-Err-clause-others : goal.returns-in-Err-clause-others
returns-in-Err-clause-others g c = rw c.in-Err.ensures.noted (torn_same _ _ _)
