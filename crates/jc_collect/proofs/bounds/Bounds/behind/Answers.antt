use Rattle.std.proofs.Common.{rules}
use Rattle.jc_collect.proofs.bounds.Bounds.behind.Goals as goal

pub loop-field-init : goal.loop-field-init
loop-field-init c = search rules
