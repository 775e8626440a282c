use Rattle.std.proofs.Common.{List, refl, subst, rules}
use Rattle.jc_base.specs.LogEntry.{LogEntry}
use Rattle.jc_upload.specs.Front.{CutsOfExport}
use Rattle.jc_upload.proofs.uploader.Uploader.next_upload.Goals as goal

pub returns-clause-front : goal.returns-clause-front
returns-clause-front c =
    subst (λ (es : List LogEntry). CutsOfExport es c.in_ok-export_upload.field-0.items) c.in_ok-sent.ensures.sent
    (c.in_ok-export_upload.ensures.front refl)

pub returns-clause-upload : goal.returns-clause-upload
returns-clause-upload c = search rules
