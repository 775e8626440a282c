use Rattle.std.proofs.Common.{refl}
use Rattle.jc_upload.proofs.Fronts.{cuts_by, file_cuts}
use Rattle.jc_upload.proofs.law.fronts_of_uploads.Goals as goal

pub returns-clause-export : goal.returns-clause-export
returns-clause-export c = λ head entries lawful is are.
    let law = c.canonical_texts_read_back.ensures in
    cuts_by c.one_head.ensures.one_fault law.whole law.front law.fewer law.ends head entries lawful head.version refl is are

pub returns-clause-file : goal.returns-clause-file
returns-clause-file c = file_cuts c.one_head.ensures.one_fault c.one_reading.ensures.one c.fronts_of_files.ensures
