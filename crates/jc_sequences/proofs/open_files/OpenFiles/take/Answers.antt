use Rattle.jc_sequences.proofs.Lending.{lent_found}
use Rattle.jc_sequences.proofs.open_files.OpenFiles.take.Goals as goal

pub returns-in-None-clause-file : goal.returns-in-None-clause-file
returns-in-None-clause-file g c = lent_found c.in-None.ensures.none c.unopened.ensures.seen c.unopened.ensures.crash

pub returns-in-None-clause-clean : goal.returns-in-None-clause-clean
returns-in-None-clause-clean g c = λ clean is. c.in-None.ensures.clean clean

pub returns-in-Some-clause-clean : goal.returns-in-Some-clause-clean
returns-in-Some-clause-clean g c = λ clean is. c.in-Some.ensures.clean clean is

pub returns-in-None-clause-calm : goal.returns-in-None-clause-calm
returns-in-None-clause-calm g c = λ clean. (c.unopened.ensures.clean, (c.in-None.ensures.calm clean).1)
