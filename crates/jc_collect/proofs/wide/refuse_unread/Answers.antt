-- A fault of the header is that of no entries.
use Rattle.std.proofs.Common.{subst}
use Rattle.std.specs.Prelude.{Err}
use Rattle.jc_collect.specs.Begun.{BeginsUpload}
use Rattle.jc_collect.specs.declared.head.Unread.{Unread}
use Rattle.jc_collect.proofs.Widening.{unread_keeps}
use Rattle.jc_collect.proofs.wide.refuse_unread.Goals as goal

pub returns-in-Fault-clause-says : goal.returns-in-Fault-clause-says
returns-in-Fault-clause-says c = λ limits bounds upload before behind known begins.
    unread_keeps limits bounds upload before behind c.in-Fault.field-0 known
    (subst (λ (unread : Unread). BeginsUpload before behind (Err unread)) c.in-Fault.is begins)
