use Rattle.std.proofs.Common.{List, refl, subst, rules}
use Rattle.jc_base.specs.LogEntry.{LogEntry}
use Rattle.jc_upload.specs.Front.{CutsOfSecond}
use Rattle.jc_upload.proofs.Fronts.{second_cuts}
use Rattle.jc_upload.proofs.uploader.Uploader.next_upload2.Goals as goal

pub returns-clause-front : goal.returns-clause-front
returns-clause-front c =
    subst (λ (es : List LogEntry). CutsOfSecond c.args.whole es c.in_ok-upload.upload.items) c.in_ok-sent.ensures.sent
    (second_cuts c.args.whole _ c.in_ok-sent.sent.now c.in_ok-upload.upload.items (c.in_ok-upload.ensures.front refl) (search rules))

pub returns-clause-upload : goal.returns-clause-upload
returns-clause-upload c = search rules
