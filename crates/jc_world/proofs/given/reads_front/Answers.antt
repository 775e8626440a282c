use Rattle.std.proofs.Common.{refl}
use Rattle.jc_world.proofs.Giving.{file_front}
use Rattle.jc_world.proofs.given.reads_front.Goals as goal

pub returns-in-Ok : goal.returns-in-Ok
returns-in-Ok c =
    file_front c.one_reading.ensures.one c.args.limits.now c.args.file.now c.args.entries.now _ c.in-Ok.front
    (c.new-source.ensures.reading c.args.file.now refl) c.in-Ok.ensures.front
