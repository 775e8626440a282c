use Rattle.jc_world.proofs.Keeping.{happens_kept, new_kept}
use Rattle.jc_world.proofs.law.events_keep.Goals as goal

pub returns-clause-begun : goal.returns-clause-begun
returns-clause-begun c = new_kept

pub returns-clause-kept : goal.returns-clause-kept
returns-clause-kept c =
    happens_kept c.one_saying.ensures c.one_head.ensures.one c.canonical_texts_read_back.ensures.front c.fronts_of_files.ensures
