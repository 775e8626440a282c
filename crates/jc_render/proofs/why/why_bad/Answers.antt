-- The two that differ are named, or it is what the code means.
use Rattle.std.proofs.Common.{inl}
use Rattle.jc_render.proofs.why.why_bad.Goals as goal

pub returns-in_ok-format-in-Some : goal.returns-in_ok-format-in-Some
returns-in_ok-format-in-Some c =
    inl (c.in-Some.database.now, c.in-Some.folder.now, c.in-Some.ensures, c.in_ok-format-in-Some.ensures.ok)
