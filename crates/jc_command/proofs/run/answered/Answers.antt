-- A request is performed; what clap answers in place of one is printed.
use Rattle.std.proofs.Common.{◌≡◌, ◌∙◌, None, Result, Ok, Err, inl, inr, map, refl, string_bytes, subst, sym, ⊎_elim}
use Rattle.std.specs.Prelude.{IfErr}
use Rattle.std.proofs.lemmas.Result.{IfErr-weaker, IfOk-weaker}
use Rattle.clap.specs.Words.{kind_of}
use Rattle.jc_command.proofs.Runs.{IfErr-both, at_ok, err_of, failed, left_answered, performed, ends_as, ends_words, ok_of, stops_answered}
use Rattle.jc_command.specs.Run.{begins_with, devices}
use Rattle.jc_command_shared.specs.Failure.{status_of}
use Rattle.jc_command_shared.specs.declared.failure.Failure.{Failure}
use Rattle.jc_command_shared.specs.declared.failure.Failure.TheVariants.{OutOfMemory}
use Rattle.jc_command_shared.specs.declared.status.Status.{Status}
use Rattle.jc_command_shared.specs.declared.status.Status.TheVariants.{Failed}
use Rattle.jc_command.proofs.run.answered.Goals as goal

pub returns-in-Ok-clause-ended : goal.returns-in-Ok-clause-ended
returns-in-Ok-clause-ended g c =
    IfOk-weaker c.perform.result _ _
    (λ done it. performed _ _ _ (map string_bytes c.args.words.now) c.in-Ok.request (g.I.Read.remaining c.args.input.now)
    (g.O.Write.contents c.args.output.now) (g.O.Write.contents c.perform.new.output) (g.E.Write.contents c.args.errors.now)
    (g.E.Write.contents c.perform.new.errors) done.status c.in-Ok.ensures.request it.performs it.quiet)
    c.perform.ensures.performed

pub returns-in-Ok-clause-stopped : goal.returns-in-Ok-clause-stopped
returns-in-Ok-clause-stopped g c =
    IfErr-weaker c.perform.result _ _
    (λ run it. failed g.Y.System.told (map string_bytes c.args.words.now) c.in-Ok.request (g.I.Read.remaining c.args.input.now)
    (g.O.Write.contents c.args.output.now) (g.O.Write.contents c.perform.new.output) run.failure c.in-Ok.ensures.request it.why it.kept)
    c.perform.ensures.failed

pub returns-in-Err-clause-ended : goal.returns-in-Err-clause-ended
returns-in-Err-clause-ended g c =
    let words = map string_bytes c.args.words.now in
    let given = g.I.Read.remaining c.args.input.now in
    let output = g.O.Write.contents c.args.output.now in
    let output' = g.O.Write.contents c.answer_words.new.output in
    let errors = g.E.Write.contents c.args.errors.now in
    let errors' = g.E.Write.contents c.answer_words.new.errors in
    let prints = c.answer_words.ensures in
    ok_of c.without.result c.answer_words.result _ _ c.without.ensures.done
    (λ done status was same. ends_as _ _ _ _ _ _ _ _ _ _ _ same.0
    (at_ok c.answer_words.result status _ was
    (ends_words _ _ _ words (kind_of c.in-Err.answer) c.answer_words.result given output output' errors errors'
    c.in-Err.ensures.answer prints.asked prints.mistaken prints.memory)))

pub returns-in-Err-clause-stopped : goal.returns-in-Err-clause-stopped
returns-in-Err-clause-stopped g c =
    let words = map string_bytes c.args.words.now in
    let given = g.I.Read.remaining c.args.input.now in
    let output = g.O.Write.contents c.args.output.now in
    let output' = g.O.Write.contents c.answer_words.new.output in
    let errors = g.E.Write.contents c.args.errors.now in
    let errors' = g.E.Write.contents c.answer_words.new.errors in
    let prints = c.answer_words.ensures in
    err_of c.without.result c.answer_words.result _ c.without.ensures.failed
    (stops_answered g.Y.System.told words (kind_of c.in-Err.answer) c.answer_words.result given output output' errors errors'
    prints.asked prints.mistaken prints.memory)

pub returns-in-Ok-clause-touched : goal.returns-in-Ok-clause-touched
returns-in-Ok-clause-touched g c = inr (c.in-Ok.request, c.in-Ok.ensures.request, c.perform.ensures.touched)

pub returns-in-Ok-clause-unopened : goal.returns-in-Ok-clause-unopened
returns-in-Ok-clause-unopened g c =
    ⊎_elim (λ opens. inl (c.in-Ok.request, c.in-Ok.ensures.request, opens)) (λ same. inr same) c.perform.ensures.unopened

pub returns-in-Ok-clause-performed : goal.returns-in-Ok-clause-performed
returns-in-Ok-clause-performed g c =
    IfOk-weaker c.perform.result _ _ (λ done it. inl (c.in-Ok.request, c.in-Ok.ensures.request, it.performs)) c.perform.ensures.performed

pub returns-in-Ok-clause-left : goal.returns-in-Ok-clause-left
returns-in-Ok-clause-left g c =
    IfErr-weaker c.perform.result _ _ (λ run it. inr (c.in-Ok.request, c.in-Ok.ensures.request, (run.failure, refl, it.why, it.leaves))) c.perform.ensures.failed

pub returns-in-Err-clause-performed : goal.returns-in-Err-clause-performed
returns-in-Err-clause-performed g c =
    let prints = c.answer_words.ensures in
    ok_of c.without.result c.answer_words.result _ _ c.without.ensures.done
    (λ done status was same. inr (left_answered (begins_with g.F.OpenFromFiles.first g.S.Begun.windows g.S.Begun.finished g.S.Begun.aside g.S.Begun.came g.Y.System.told g.Y.System.found (g.Y.System.deeds c.args.rt.now) (g.O.Output.entry_shape c.args.output.now)) (devices g.F.StoreInFiles.in_files g.N.Notes.Ledger)
    (map string_bytes c.args.words.now) (kind_of c.in-Err.answer) c.answer_words.result (g.I.Read.remaining c.args.input.now)
    (g.O.Write.contents c.args.output.now) (g.O.Write.contents c.answer_words.new.output) done.status None refl refl c.in-Err.ensures.answer prints.mistaken prints.memory
    (λ refused. let clash : Ok status ≡ Err OutOfMemory = sym was ∙ refused in cc)))

pub returns-in-Err-clause-left : goal.returns-in-Err-clause-left
returns-in-Err-clause-left g c =
    let prints = c.answer_words.ensures in
    IfErr-both c.without.result _ _ _
    (λ run same none. left_answered (begins_with g.F.OpenFromFiles.first g.S.Begun.windows g.S.Begun.finished g.S.Begun.aside g.S.Begun.came g.Y.System.told g.Y.System.found (g.Y.System.deeds c.args.rt.now) (g.O.Output.entry_shape c.args.output.now)) (devices g.F.StoreInFiles.in_files g.N.Notes.Ledger)
    (map string_bytes c.args.words.now) (kind_of c.in-Err.answer) c.answer_words.result (g.I.Read.remaining c.args.input.now)
    (g.O.Write.contents c.args.output.now) (g.O.Write.contents c.answer_words.new.output) _ run.left refl none c.in-Err.ensures.answer prints.mistaken prints.memory
    (λ refused. subst (λ (r : Result Status Failure). IfErr r (λ failure. status_of failure ≡ Failed)) (sym refused ∙ same) refl))
    c.without.ensures.failed c.without.ensures.left
