-- The error's kind is the one that it was made with.
use Rattle.jc_command_args.proofs.words.conflict.Goals as goal

pub returns : goal.returns
returns c = c.error.ensures.kind
