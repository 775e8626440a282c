use Rattle.std.proofs.Common.{◌++◌, ap, ◌∙◌, append-nil, arith}
use Rattle.std.proofs.lemmas.List.{drop_all}
use Rattle.std.specs.Int.{w64, to_le_bytes}
use Rattle.jc_upload.proofs.head.put_number.Goals as goal

pub returns : goal.returns
returns c =
    c.write_u64.ensures ∙ ap (λ l. to_le_bytes w64 c.args.number ++ l) (drop_all 8 c.args.part.now (omega (arith, c.requires)))
    ∙ append-nil (to_le_bytes w64 c.args.number)
