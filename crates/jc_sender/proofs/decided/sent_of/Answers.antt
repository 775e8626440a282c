-- The bytes are one header's at most.
use Rattle.jc_sender.proofs.Acknowledging.{brings_read}
use Rattle.jc_sender.proofs.decided.sent_of.Goals as goal

pub returns-in-Ok : goal.returns-in-Ok
returns-in-Ok c =
    brings_read c.args.bytes.now c.in-Ok.head c.read.result c.whole_source.result c.in-Ok.is c.in-Ok.ensures.found.0 c.in-Ok.ensures.found.1
    c.read.ensures.only c.whole_source.ensures
