-- Nothing was printed where there is no upload.
use Rattle.std.proofs.KnownBytes.{Keeps-refl}
use Rattle.jc_sender.proofs.Uploads.{on_failure}
use Rattle.jc_sender.proofs.next_upload.upload.Goals as goal

pub returns-in_err-upload-clause-untouched : goal.returns-in_err-upload-clause-untouched
returns-in_err-upload-clause-untouched g c =
    on_failure c.from_residual-in_err-upload.result _ (λ failure other. Keeps-refl (g.O.Write.contents c.args.output.now))
