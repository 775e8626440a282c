-- What an output has. (own)
use Rattle.std.specs.Prelude.{ℕ, List, Option}
use Rattle.std.specs.Io.KnownBytes.{Keeps, append_known}

-- It has what was taken for it, but for bytes at the end.
abbrev pub LacksEnd : (taken there : Option (List ℕ)) → Type 0
LacksEnd taken there = (lacking : List ℕ) × Keeps taken (append_known there lacking)
