-- What is read is what the file has, or of one that isn't regular its front.
use Rattle.std.proofs.Common.{◌≡◌, ◌∙◌, ◌+◌, ℕ, List, Option, inl, inr, refl, subst, take}
use Rattle.std.specs.Prelude.{IfSome}
use Rattle.jc_command_args.specs.declared.request.InputKind.TheVariants.{File}
use Rattle.jc_sender.specs.Source.{most_file_bytes}
use Rattle.jc_sender.proofs.Told.{of_read}
use Rattle.jc_sender.proofs.verdict.verify_file.Goals as goal

pub returns-then-not-is_regular-clause-told : goal.returns-then-not-is_regular-clause-told
returns-then-not-is_regular-clause-told g c = λ held remains has.
    of_read File c.verify_space.result held c.deref.result.now (g.O.Write.contents c.args.output.now) (g.O.Write.contents c.verify_space.new.output)
    (inr (c.deref.ensures.value
    ∙ subst (λ (k : Option (List ℕ)). IfSome k (λ all. c.in_ok-bytes.bytes.items ≡ take (most_file_bytes + 1) all)) remains c.in_ok-bytes.ensures.front))
    (c.verify_space.ensures.bytes c.deref.result.now refl)

pub returns-in-Ok-clause-told : goal.returns-in-Ok-clause-told
returns-in-Ok-clause-told g c = λ held remains has.
    of_read File c.verify_space-in-Ok.result held held (g.O.Write.contents c.args.output.now) (g.O.Write.contents c.verify_space-in-Ok.new.output)
    (inl refl) (c.verify_space-in-Ok.ensures.bytes held (c.new-in-Ok.ensures.bytes ∙ c.in-Ok.ensures.bytes ∙ has))
