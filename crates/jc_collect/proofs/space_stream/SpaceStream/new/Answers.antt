use Rattle.jc_collect.proofs.Reading.{from_start}
use Rattle.jc_collect.proofs.space_stream.SpaceStream.new.Goals as goal

pub returns-clause-remaining : goal.returns-clause-remaining
returns-clause-remaining g c = from_start (g.B.ByteSpace.bytes c.args.space)
