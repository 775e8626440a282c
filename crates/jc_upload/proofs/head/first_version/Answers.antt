use Rattle.std.proofs.Common.{inl, rules}
use Rattle.jc_upload.proofs.HeadLemmas.{first_checked, first_flag, flag_unknown, last_not_zero}
use Rattle.jc_upload.proofs.head.first_version.Goals as goal

pub returns-then-not-has_flag : goal.returns-then-not-has_flag
returns-then-not-has_flag c =
    flag_unknown c.args.bytes.now (search rules) (inl c.requires.magic) c.requires.kind (first_flag c.args.bytes.now c.requires.magic (search rules))

pub returns-then-not-is_zero : goal.returns-then-not-is_zero
returns-then-not-is_zero c =
    let flag = c.has_flag.ensures.0 (search rules) in
    last_not_zero c.args.bytes.now (search rules) c.requires.magic c.requires.kind flag.0 flag.1 (search rules)

pub returns : goal.returns
returns c =
    let flag = c.has_flag.ensures.0 (search rules) in
    first_checked c.args.bytes.now (search rules) c.requires.magic flag.0 flag.1 (search rules)
