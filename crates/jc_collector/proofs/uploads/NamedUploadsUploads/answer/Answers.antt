-- There is an answer for each line.
use Rattle.std.proofs.Common.{inl, inr}
use Rattle.jc_collector.proofs.Counted.{hold_as, named_counted}
use Rattle.jc_collector.proofs.Results.{IfErr-each}
use Rattle.jc_collector.proofs.uploads.NamedUploadsUploads.answer.Goals as goal

pub returns-clause-answers : goal.returns-clause-answers
returns-clause-answers g c =
    let old = g.O.Write.contents c.args.output.now in
    let new = g.O.Write.contents c.answer_names.new.output in
    hold_as g.K.Keeper _ _ _ _ c.answer_names.result old new (λ Holds status p. named_counted (g.L.Read.remaining c.args.self.names) Holds status old new p) c.answer_names.ensures.answers

pub returns-clause-stopped : goal.returns-clause-stopped
returns-clause-stopped g c =
    IfErr-each c.answer_names.result _ _
    (λ failure why. elim why [ inl is ↦ inl (tt, is) | inr more ↦ elim more [ inl is ↦ inr (inl is) | inr is ↦ inr (inr (inr is)) ] ])
    c.answer_names.ensures.failed
