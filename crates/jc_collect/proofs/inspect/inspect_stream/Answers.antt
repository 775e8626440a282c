-- The header, and the body behind it.
use Rattle.std.proofs.Common.{refl}
use Rattle.jc_upload.specs.declared.head.Kind.TheVariants.{Export, File}
use Rattle.jc_collect.proofs.Inspecting.{unread_says, upload_says}
use Rattle.jc_collect.proofs.inspect.inspect_stream.Goals as goal

pub returns-in-Err-clause-says : goal.returns-in-Err-clause-says
returns-in-Err-clause-says g c = λ upload known.
    unread_says c.args.limits.now c.args.bounds.now upload (g.R.ByteStream.remaining c.args.device) (g.R.ByteStream.remaining c.read_head.new.device)
    c.in-Err.unread c.inspect_unread.result known c.in-Err.ensures.begins
    c.inspect_unread.ensures

pub returns-in_ok-body-in-Export-clause-says : goal.returns-in_ok-body-in-Export-clause-says
returns-in_ok-body-in-Export-clause-says g c = λ upload known.
    upload_says c.args.limits.now c.args.bounds.now upload (g.R.ByteStream.remaining c.args.device) _ _ c.in-Ok.head Export c.in_ok-body-in-Export.body
    c.as_inspected.result known c.in-Ok.ensures.begins c.in-Export.is refl c.in_ok-body-in-Export.ensures.says c.as_inspected.ensures

pub returns-in_ok-body-in-File-clause-says : goal.returns-in_ok-body-in-File-clause-says
returns-in_ok-body-in-File-clause-says g c = λ upload known.
    upload_says c.args.limits.now c.args.bounds.now upload (g.R.ByteStream.remaining c.args.device) _ _ c.in-Ok.head File c.in_ok-body-in-File.body
    c.as_inspected-in-File.result known c.in-Ok.ensures.begins c.in-File.is refl c.in_ok-body-in-File.ensures.says c.as_inspected-in-File.ensures
