-- The body is read as the header says.
use Rattle.std.proofs.Common.{refl}
use Rattle.jc_upload.specs.declared.head.Kind.TheVariants.{Export, File}
use Rattle.jc_collect.proofs.Inspecting.{upload_says}
use Rattle.jc_collect.proofs.inspect.inspect_part.Goals as goal

pub returns-in_ok-body-in-Export-clause-says : goal.returns-in_ok-body-in-Export-clause-says
returns-in_ok-body-in-Export-clause-says g c = λ upload before known begins.
    upload_says c.args.limits.now c.args.bounds.now upload before (g.B.ByteSpace.bytes c.args.part) _ c.args.head
    Export c.in_ok-body-in-Export.body c.as_inspected.result known begins c.in-Export.is c.new.ensures.remaining c.in_ok-body-in-Export.ensures.says
    c.as_inspected.ensures

pub returns-in_ok-body-in-File-clause-says : goal.returns-in_ok-body-in-File-clause-says
returns-in_ok-body-in-File-clause-says g c = λ upload before known begins.
    upload_says c.args.limits.now c.args.bounds.now upload before (g.B.ByteSpace.bytes c.args.part) _ c.args.head
    File c.in_ok-body-in-File.body c.as_inspected-in-File.result known begins c.in-File.is refl c.in_ok-body-in-File.ensures.says
    c.as_inspected-in-File.ensures
