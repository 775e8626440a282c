use Rattle.std.proofs.Common.{ℕ, List}
use Rattle.std.specs.Io.KnownBytes.{Appends}
use Rattle.jc_command_args.specs.declared.codes.TheConstants.{CODES}
use Rattle.jc_render.specs.Objects.{AreLinesBelow}
use Rattle.jc_render.proofs.objects.put_codes.Given as goal

-- the lines of the codes so far went out
abbrev pub invariant-loop-code : goal.invariant-loop-code
invariant-loop-code g l =
    (lines : List ℕ) × AreLinesBelow CODES.now l.code lines × Appends (g.W.Write.contents l.fn.inner) (g.W.Write.contents l.inner) lines
