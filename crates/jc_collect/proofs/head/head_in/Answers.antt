use Rattle.std.proofs.Common.{arith}
use Rattle.jc_collect.proofs.Heads.{begins_short, begins_faulty, begins_well}
use Rattle.jc_collect.proofs.head.head_in.Goals as goal

pub returns-then-came-lt-HEAD_LENGTH-clause-begins : goal.returns-then-came-lt-HEAD_LENGTH-clause-begins
returns-then-came-lt-HEAD_LENGTH-clause-begins c = λ upload behind come. begins_short c.args.bytes.now c.args.came upload behind (omega arith) come

pub returns-in-Err-clause-begins : goal.returns-in-Err-clause-begins
returns-in-Err-clause-begins c = λ upload behind come.
    begins_faulty c.args.bytes.now c.args.came upload behind c.in-Err.fault c.one_head.ensures.front (omega arith) (omega arith) come c.in-Err.ensures.fault

pub returns-in-Ok-clause-begins : goal.returns-in-Ok-clause-begins
returns-in-Ok-clause-begins c = λ upload behind come.
    begins_well c.args.bytes.now c.args.came upload behind c.in-Ok.head (omega arith) come c.in-Ok.ensures.found
