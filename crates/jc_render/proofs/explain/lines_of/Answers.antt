-- Nothing is explained yet.
use Rattle.std.proofs.Common.{ap, map, string_bytes}
use Rattle.jc_render.specs.Explanations.{none}
use Rattle.jc_render.proofs.explain.lines_of.Goals as goal

pub loop-trouble-init : goal.loop-trouble-init
loop-trouble-init c = rw (ap (λ xs. map string_bytes xs) c.new-told.ensures.items, c.new-lines.ensures.bytes) none
