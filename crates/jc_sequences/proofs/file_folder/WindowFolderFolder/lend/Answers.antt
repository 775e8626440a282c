use Rattle.jc_sequences.proofs.file_folder.WindowFolderFolder.lend.Goals as goal

pub returns-in-Ok-clause-file : goal.returns-in-Ok-clause-file
returns-in-Ok-clause-file g c = λ clean. c.in-Ok.ensures.file

pub returns-in-Ok-clause-others : goal.returns-in-Ok-clause-others
returns-in-Ok-clause-others g c = λ clean. c.lend.ensures.others clean.0

pub returns-in-Ok-clause-clean : goal.returns-in-Ok-clause-clean
returns-in-Ok-clause-clean g c = λ clean is. (c.lend.ensures.worn clean.0, c.in-Ok.ensures.clean clean.0 clean.1 is)

pub returns-in-Err-clause-others : goal.returns-in-Err-clause-others
returns-in-Err-clause-others g c = λ clean.
    let before = rw c.count.ensures.open at clean in
    rw c.count.ensures.open (c.lend.ensures.others before.0)

pub returns-in-Err-clause-refused : goal.returns-in-Err-clause-refused
returns-in-Err-clause-refused g c = λ clean.
    let before = rw c.count.ensures.open at clean in
    rw c.count.ensures.open (c.in-Err.ensures.refused before.0)

pub returns-in-Err-clause-clean : goal.returns-in-Err-clause-clean
returns-in-Err-clause-clean g c = λ clean.
    let before = rw c.count.ensures.open at clean in
    (c.lend.ensures.worn before.0, c.in-Err.ensures.clean before.0 before.1)

pub returns-in-Ok-clause-calm : goal.returns-in-Ok-clause-calm
returns-in-Ok-clause-calm g c = λ clean. c.in-Ok.ensures.calm clean.0 clean.1
