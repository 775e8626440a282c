use Rattle.std.proofs.lemmas.List.{take_rest}
use Rattle.jc_base.specs.WentOutLaws.{went_out_more}
use Rattle.jc_command_shared.proofs.output.write_front.Goals as goal

pub loop-at-preserved : goal.loop-at-preserved
loop-at-preserved g c =
    let text = c.args.text.now in
    let at = c.loop-at.at in
    let wrote = c.in-Ok.ensures in
    went_out_more _ _ _ text at c.in-Ok.count c.loop-at.invariant (rw (take_rest text at) at wrote.bound) (rw (take_rest text at) at wrote.bytes)
