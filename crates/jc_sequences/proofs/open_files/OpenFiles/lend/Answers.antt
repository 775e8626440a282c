-- A file is opened that was kept, or is asked for first. One that can't be opened is kept as it was.
use Rattle.std.proofs.Common.{◌∙◌}
use Rattle.jc_sequences.proofs.Closing.{all_stay}
use Rattle.jc_sequences.proofs.Lending.{lent_asked, others_of}
use Rattle.jc_sequences.proofs.open_files.OpenFiles.lend.Goals as goal

pub returns-in-Ok-clause-file : goal.returns-in-Ok-clause-file
returns-in-Ok-clause-file g c = lent_asked c.open.ensures.asked c.take-file.ensures.file

pub returns-in-Ok-clause-usable : goal.returns-in-Ok-clause-usable
returns-in-Ok-clause-usable g c = c.in-Ok.ensures.usable

pub returns-in-Ok-clause-others : goal.returns-in-Ok-clause-others
returns-in-Ok-clause-others g c = λ whole. c.take-file.ensures.others

pub returns-in-Ok-clause-clean : goal.returns-in-Ok-clause-clean
returns-in-Ok-clause-clean g c = λ whole clean is. c.take-file.ensures.clean clean (c.open.ensures.asked.was_clean is)

pub returns-in-Ok-clause-calm : goal.returns-in-Ok-clause-calm
returns-in-Ok-clause-calm g c = λ whole clean. (c.take-file.ensures.worn ∙ whole, (c.take-file.ensures.calm clean).1)

pub returns-in-Err-clause-refused : goal.returns-in-Err-clause-refused
returns-in-Err-clause-refused g c = λ whole.
    let asked = c.open.ensures.asked in
    all_stay c.args.name c.take-file.ensures.file c.take-file.ensures.others asked.same asked.crash (c.keep.ensures.file whole) (c.keep.ensures.others whole)

pub returns-in-Err-clause-others : goal.returns-in-Err-clause-others
returns-in-Err-clause-others g c = λ whole.
    let asked = c.open.ensures.asked in
    others_of (all_stay c.args.name c.take-file.ensures.file c.take-file.ensures.others asked.same asked.crash (c.keep.ensures.file whole) (c.keep.ensures.others whole))

pub returns-in-Err-clause-clean : goal.returns-in-Err-clause-clean
returns-in-Err-clause-clean g c = λ whole clean.
    let kept = c.keep.ensures.clean whole clean in
    c.take-file.ensures.clean kept.1 (c.open.ensures.asked.was_clean kept.0)
