use Rattle.std.proofs.Common.{rules}
use Rattle.jc_sequences.proofs.file_folder.WindowFolderFolder.give_back.Goals as goal

pub returns-in-Ok-clause-clean : goal.returns-in-Ok-clause-clean
returns-in-Ok-clause-clean g c = λ clean.
    let both = c.put.ensures.clean clean.0 clean.1 in
    ((c.put.ensures.worn clean.0, both.1), both.0)

pub returns-in-Ok-clause-file : goal.returns-in-Ok-clause-file
returns-in-Ok-clause-file g c = search rules

pub returns-in-Ok-clause-others : goal.returns-in-Ok-clause-others
returns-in-Ok-clause-others g c = λ clean. c.put.ensures.others clean.0

pub returns-in-Ok-clause-calm : goal.returns-in-Ok-clause-calm
returns-in-Ok-clause-calm g c = λ clean this. c.in-Ok.ensures.calm clean.0 clean.1 this

pub returns-in-Err-clause-clean : goal.returns-in-Err-clause-clean
returns-in-Err-clause-clean g c = λ clean.
    let now = rw c.count.ensures.open at clean in
    let both = c.put.ensures.clean now.0 now.1 in
    ((c.put.ensures.worn now.0, both.1), both.0)

pub returns-in-Err-clause-file : goal.returns-in-Err-clause-file
returns-in-Err-clause-file g c = λ clean.
    let now = rw c.count.ensures.open at clean in
    rw c.count.ensures.open (c.put.ensures.file now.0)

pub returns-in-Err-clause-others : goal.returns-in-Err-clause-others
returns-in-Err-clause-others g c = λ clean.
    let now = rw c.count.ensures.open at clean in
    rw c.count.ensures.open (c.put.ensures.others now.0)
