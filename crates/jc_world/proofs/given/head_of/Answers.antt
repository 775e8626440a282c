use Rattle.std.proofs.Common.{sym, subst, Option}
use Rattle.std.specs.Prelude.{MatchOption}
use Rattle.jc_upload.specs.declared.head.UploadHead.{UploadHead}
use Rattle.jc_world.specs.Given.{BeginsWith}
use Rattle.jc_world.proofs.Giving.{head_read, short_begins}
use Rattle.jc_world.proofs.given.head_of.Goals as goal

pub returns-in_err-first : goal.returns-in_err-first
returns-in_err-first c =
    subst (λ (found : Option UploadHead). MatchOption found ((head : UploadHead) → ¬ BeginsWith c.args.bytes.now head) (BeginsWith c.args.bytes.now))
    (sym c.from_residual.ensures) (short_begins c.one_head.ensures.passes c.args.bytes.now c.in_err-first.ensures.cases)

pub returns : goal.returns
returns c =
    let first = c.in_ok-first.ensures.cases in
    subst (λ (found : Option UploadHead). MatchOption found ((head : UploadHead) → ¬ BeginsWith c.args.bytes.now head) (BeginsWith c.args.bytes.now))
    (sym c.ok.ensures.value)
    (head_read c.one_head.ensures.passes c.one_head.ensures.front c.args.bytes.now c.in_ok-first.first.now c.read.result first.enough first.same
    c.read.ensures.found c.read.ensures.fault)
