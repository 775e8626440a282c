-- The answers were taken by the marks of the entries that the stream gave.
use Rattle.std.proofs.Common.{◌≡◌, ◌∙◌, ℕ, ap, subst}
use Rattle.jc_upload.specs.Upload.{Sender}
use Rattle.jc_upload.specs.Marks.{AsksFor}
use Rattle.jc_upload.proofs.Marking.{asks_still}
use Rattle.jc_upload.proofs.uploader.Uploader.on_answers.Goals as goal

pub returns-clause-taken : goal.returns-clause-taken
returns-clause-taken g c =
    let gave = c.in_ok-ending.ensures.taken in
    let at : c.position.result ≡ c.args.self.now.point.position =
    c.position.ensures ∙ ap (λ (s : Sender). s.point.position) c.self.view_is in
    let asked = subst (λ (n : ℕ). AsksFor n c.args.answers.now c.in_ok-marks.marks) at c.in_ok-marks.ensures.asked in
    let asks = asks_still c.args.self.now.point.position c.args.answers.now c.in_ok-marks.marks c.take_all.new.self asked c.in_ok-ending.ensures.asked in
    (gave.0, gave.1, gave.2, c.take_answers.ensures gave.0 gave.3 asks)
