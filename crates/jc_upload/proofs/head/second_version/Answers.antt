use Rattle.std.proofs.Common.{inr, rules}
use Rattle.jc_upload.proofs.HeadLemmas.{flag_unknown, second_checked, second_flag}
use Rattle.jc_upload.proofs.head.second_version.Goals as goal

pub returns-then-not-has_flag : goal.returns-then-not-has_flag
returns-then-not-has_flag c =
    flag_unknown c.args.bytes.now (search rules) (inr c.requires.magic) c.requires.kind (second_flag c.args.bytes.now c.requires.magic (search rules))

pub returns : goal.returns
returns c =
    let flag = c.has_flag.ensures.0 (search rules) in
    second_checked c.args.bytes.now _ c.read_u64.result (search rules) (λ i. search rules) c.requires.magic flag.0 flag.1 (search rules)
    c.read_u64.ensures
