-- The first word is passed over, and no other that was is the option or ends the options.
use Rattle.std.proofs.Common.{◌≤◌, string_bytes}
use Rattle.jc_render.specs.Words.{IsClear}
use Rattle.jc_render.proofs.words.place_of_option.Given as goal

abbrev pub invariant-loop-at : goal.invariant-loop-at
invariant-loop-at l = (1 ≤ l.at) × IsClear string_bytes l.option l.words l.at
