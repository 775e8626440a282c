use Rattle.std.proofs.Common.{inl, inr, refl, rules}
use Rattle.jc_command_shared.proofs.Folders.{split_at, unsplit}
use Rattle.jc_command_shared.proofs.new_file.folder_and_name.Goals as goal

pub returns-in_default : goal.returns-in_default
returns-in_default c = record { last = unsplit c.args.path.now c.in_default.ensures.cases; joined = inr (inr (refl, refl)) }

pub returns-then-is_empty : goal.returns-then-is_empty
returns-then-is_empty c =
    let (i, j, found, before, after, order, long, short) = c.in-Some.ensures.cases in
    let it = split_at c.args.path.now c.in-Some.folder.now c.in-Some.name.now i j found before after long short in
    record { last = it.1; joined = inr (inl (refl, search (rules, it.0))) }

pub returns : goal.returns
returns c =
    let (i, j, found, before, after, order, long, short) = c.in-Some.ensures.cases in
    let it = split_at c.args.path.now c.in-Some.folder.now c.in-Some.name.now i j found before after long short in
    record { last = it.1; joined = inl (search rules, it.0) }
