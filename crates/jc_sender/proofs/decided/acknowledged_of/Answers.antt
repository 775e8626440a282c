-- The header that was read is that of the upload, and the lines say what is told.
use Rattle.std.proofs.Common.{List, ℕ, subst}
use Rattle.jc_command_shared.specs.Lines.{lines_of}
use Rattle.jc_sender.specs.Acknowledged.{IsHeadOf, Says}
use Rattle.jc_sender.specs.declared.decided.Sent.{Sent}
use Rattle.jc_sender.proofs.Acknowledging.{not_bad, told_of, told_of_known}
use Rattle.jc_sender.proofs.decided.acknowledged_of.Goals as goal

pub returns-in_default-clause-refused : goal.returns-in_default-clause-refused
returns-in_default-clause-refused g c = λ upload sent known brings same.
    not_bad c.in_ok-front.front.items upload (g.F.Read.remaining c.args.file) sent known c.in_ok-front.ensures.front brings
    (subst (λ (bytes : List ℕ). (s : Sent) → ¬ IsHeadOf bytes s) c.deref.ensures.value c.in_default.ensures)

pub returns-clause-told : goal.returns-clause-told
returns-clause-told g c =
    told_of c.deref.result.now c.in_ok-text.text.items c.in-Some.sent (g.I.Read.remaining c.args.input.now) c.tell.result c.outcome_in.result
    (g.O.Write.contents c.args.output.now) (g.O.Write.contents c.tell.new.output) c.in-Some.ensures c.in_ok-text.ensures.whole
    (subst (λ (text : List ℕ). Says c.in-Some.sent (lines_of text) c.outcome_in.result) c.deref-2.ensures.value c.outcome_in.ensures)
    c.tell.ensures.told

pub returns-clause-bytes : goal.returns-clause-bytes
returns-clause-bytes g c = λ upload known.
    told_of_known c.in_ok-front.front.items c.in_ok-text.text.items upload c.in-Some.sent (g.F.Read.remaining c.args.file)
    (g.I.Read.remaining c.args.input.now) c.tell.result c.outcome_in.result
    (g.O.Write.contents c.args.output.now) (g.O.Write.contents c.tell.new.output) known c.in_ok-front.ensures.front
    (subst (λ (bytes : List ℕ). IsHeadOf bytes c.in-Some.sent) c.deref.ensures.value c.in-Some.ensures) c.in_ok-text.ensures.whole
    (subst (λ (text : List ℕ). Says c.in-Some.sent (lines_of text) c.outcome_in.result) c.deref-2.ensures.value c.outcome_in.ensures)
    c.tell.ensures.told
