-- What the request is about; nothing if there is none.
use Rattle.std.proofs.Common.{refl}
use Rattle.clap.specs.Words.{kind_of}
use Rattle.jc_render.specs.Explanations.{answered, named}
use Rattle.jc_render.proofs.why.subject_of.Goals as goal

pub returns-in-Ok : goal.returns-in-Ok
returns-in-Ok c = named c.in-Ok.request c.in-Ok.ensures.request c.named_in.ensures.database c.named_in.ensures.sequences refl

pub returns : goal.returns
returns c = answered (kind_of c.in-Err.field-0) c.in-Err.ensures.answer refl refl refl
