-- What is read is what is told of the file.
use Rattle.std.proofs.Common.{◌∙◌, refl, rules}
use Rattle.jc_command_args.specs.declared.request.InputKind.TheVariants.{Export}
use Rattle.jc_sender.proofs.Told.{of_read}
use Rattle.jc_sender.proofs.verdict.verify.Goals as goal

pub returns-in_ok-open_file-in-Export-clause-told : goal.returns-in_ok-open_file-in-Export-clause-told
returns-in_ok-open_file-in-Export-clause-told g c = λ held is.
    rw c.in-Export.is
    (of_read Export c.verify_export.result held held (g.O.Write.contents c.args.output.now) (g.O.Write.contents c.verify_export.new.output) refl
    (c.verify_export.ensures.bytes held (c.new-device.ensures.bytes ∙ c.in_ok-open_file-in-Export.ensures.stream ∙ is)))

pub returns-in_ok-open_file-in-File-clause-printed : goal.returns-in_ok-open_file-in-File-clause-printed
returns-in_ok-open_file-in-File-clause-printed g c = search rules

pub returns-in_ok-open_file-in-File-clause-told : goal.returns-in_ok-open_file-in-File-clause-told
returns-in_ok-open_file-in-File-clause-told g c = λ held is.
    rw c.in-File.is
    (c.verify_file.ensures.told held (c.in_ok-open_file-in-File.ensures.stream ∙ is) (c.in_ok-open_file-in-File.ensures.bytes ∙ is))
