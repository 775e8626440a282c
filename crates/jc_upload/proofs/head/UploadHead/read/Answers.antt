use Rattle.std.proofs.Common.{Ok, rules, ap, sym, ◌∙◌}
use Rattle.jc_upload.proofs.HeadLemmas.{found_head, no_head, same_text}
use Rattle.jc_upload.proofs.head.UploadHead.read.Goals as goal

pub returns-in_err-kind-clause-only : goal.returns-in_err-kind-clause-only
returns-in_err-kind-clause-only c head ok is =
    absurd (no_head c.args.bytes.now c.in_err-kind.field-0.0 c.in_err-kind.ensures head ok is)

pub returns-in_err-version-clause-only : goal.returns-in_err-version-clause-only
returns-in_err-version-clause-only c head ok is =
    absurd (no_head c.args.bytes.now c.in_err-version.field-0.0 c.in_err-version.ensures head ok is)

pub returns-clause-found : goal.returns-clause-found
returns-clause-found c =
    found_head c.args.bytes.now c.in_ok-version.version c.in_ok-kind.kind c.copy_from_slice.new.self c.read_u64-start.result (search rules)
    (λ i. search rules) c.in_ok-version.ensures c.in_ok-kind.ensures c.copy_from_slice.ensures.after c.read_u64-start.ensures

pub returns-clause-only : goal.returns-clause-only
returns-clause-only c head ok is =
    let found =
    found_head c.args.bytes.now c.in_ok-version.version c.in_ok-kind.kind c.copy_from_slice.new.self c.read_u64-start.result (search rules)
    (λ i. search rules) c.in_ok-version.ensures c.in_ok-kind.ensures c.copy_from_slice.ensures.after c.read_u64-start.ensures in
    ap Ok (same_text _ head found.0 ok (sym found.1 ∙ is))
