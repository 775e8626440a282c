-- Whatever a crash leaves of the files is a journal, which with whatever it leaves of the notes is a union again.
use Rattle.jc_collector_answers.specs.PrintedLaws.{text_other}
use Rattle.jc_theorems.proofs.Left.{left_noted}
use Rattle.jc_theorems.proofs.union_stopping.stop_over.Goals as goal

pub returns-clause-each : goal.returns-clause-each
returns-clause-each g c = rw c.let_go.ensures (λ lawful clean l_clean none may l_sound.
    let ran = c.join_open-union.ensures.answers in
    let files = c.stop_keeper.ensures in
    text_other _ _ (left_noted g.F.StoreInFiles.in_files c.stop_keeper.result (files.left lawful (ran.recovers (files.clean clean, (l_clean, (tt, none))) may l_sound).0 clean) _)
    (g.N.Read.remaining c.args.names.now) c.join_open-union.result.answered _ _ (ran.each (files.clean clean, (l_clean, (tt, none))) may l_sound))

pub returns-clause-clean : goal.returns-clause-clean
returns-clause-clean g c = rw c.let_go.ensures (λ clean l_clean none.
    (c.join_open-union.ensures.answers.was_clean (c.stop_keeper.ensures.clean clean, (l_clean, (tt, none)))).0)
