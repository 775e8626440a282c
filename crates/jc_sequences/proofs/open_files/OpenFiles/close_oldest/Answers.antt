use Rattle.jc_sequences.proofs.Closing.{all_stay}
use Rattle.jc_sequences.proofs.open_files.OpenFiles.close_oldest.Goals as goal

pub returns-in-Some-clause-all : goal.returns-in-Some-clause-all
returns-in-Some-clause-all g c = λ whole.
    let stays = c.close.ensures.stays in
    all_stay c.remove-oldest.result c.in-Some.ensures.file c.take.ensures.others stays.same stays.crash (c.keep.ensures.file whole) (c.keep.ensures.others whole)
