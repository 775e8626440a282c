use Rattle.std.proofs.Common.{rules}
use Rattle.jc_sequences.proofs.open_files.OpenFiles.keep.Goals as goal

pub returns-in-Ok-clause-clean : goal.returns-in-Ok-clause-clean
returns-in-Ok-clause-clean g c = λ whole clean.
    (c.in-Ok.ensures.clean clean, c.in-Ok.ensures.clean_others (c.has.ensures.away c.if-has.false) clean)

pub returns-in-Err-clause-clean : goal.returns-in-Err-clause-clean
returns-in-Err-clause-clean g c = search rules
