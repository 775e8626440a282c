use Rattle.std.proofs.Common.{◌∙◌}
use Rattle.std.proofs.lemmas.List.{take_rest}
use Rattle.jc_base.specs.WentOutLaws.{went_out_more}
use Rattle.jc_base.proofs.sink.write_all.Goals as goal

pub loop-at-preserved : goal.loop-at-preserved
loop-at-preserved g c =
    let text = c.args.text.now in
    let at = c.loop-at.at in
    let wrote = c.in-Ok.ensures in
    record {
      out = went_out_more _ _ _ text at c.in-Ok.count c.loop-at.invariant.out (rw (take_rest text at) at wrote.within) (rw (take_rest text at) at wrote.bytes);
      stays = wrote.stays ∙ c.loop-at.invariant.stays;
      borrowed_device = cc (wrote.borrowed_device, c.loop-at.invariant.borrowed_device);
    }
