use Rattle.std.proofs.Common.{sym, ◌∙◌}
use Rattle.jc_upload.proofs.Sayings.{says_once}
use Rattle.jc_upload.proofs.law.one_saying.Goals as goal

pub returns : goal.returns
returns c =
    says_once c.one_head.ensures.one c.one_head.ensures.passes c.one_head.ensures.one_fault
    (λ limits bytes r s a b. c.one_reading.ensures.only limits 0 bytes r a ∙ sym (c.one_reading.ensures.only limits 0 bytes s b))
    c.one_reading-2.ensures.one
