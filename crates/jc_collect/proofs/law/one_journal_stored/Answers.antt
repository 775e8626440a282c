use Rattle.jc_collect.proofs.OneAnswer.{stored_once}
use Rattle.jc_collect.proofs.law.one_journal_stored.Goals as goal

pub returns : goal.returns
returns c = stored_once
