-- The lines of the codes so far, and one more.
use Rattle.std.proofs.Common.{◌≡◌, ℕ, List, [], ◌++◌, subst, arith}
use Rattle.std.specs.Io.KnownBytes.{Appends}
use Rattle.std.proofs.KnownBytes.{Appends-trans, Appends-nil}
use Rattle.jc_command_args.specs.declared.codes.TheConstants.{CODES}
use Rattle.jc_render.specs.Objects.{more, none, AreLinesBelow}
use Rattle.jc_render.proofs.objects.put_codes.Goals as goal

pub loop-code-init : goal.loop-code-init
loop-code-init g c = ([], none, Appends-nil _)

pub loop-code-preserved : goal.loop-code-preserved
loop-code-preserved g c =
    let so_far = c.loop-code.invariant in
    let line = c.in_ok-put_code.ensures in
    (so_far.0 ++ line.0, more c.loop-code.code so_far.0 line.0 so_far.1 line.1, Appends-trans _ _ _ so_far.0 line.0 so_far.2 line.2)

pub returns : goal.returns
returns g c =
    let end : c.loop-code.code ≡ 256 = omega arith in
    subst (λ (n : ℕ). (lines : List ℕ) × AreLinesBelow CODES.now n lines × Appends (g.W.Write.contents c.args.inner.now) (g.W.Write.contents c.loop-code.inner) lines) end c.loop-code.invariant
