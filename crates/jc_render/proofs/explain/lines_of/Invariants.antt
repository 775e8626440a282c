-- What was passed is explained.
use Rattle.std.proofs.Common.{map, string_bytes}
use Rattle.jc_command_args.specs.declared.codes.TheConstants.{CODES}
use Rattle.jc_render.specs.Explanations.{AreExplanations}
use Rattle.jc_render.proofs.explain.lines_of.Given as goal

abbrev pub invariant-loop-trouble : goal.invariant-loop-trouble
invariant-loop-trouble l = AreExplanations l.subject CODES.now l.troubles (map string_bytes l.told.items) (string_bytes l.lines)
