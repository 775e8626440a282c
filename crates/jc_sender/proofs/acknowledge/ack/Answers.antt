-- The point that is printed is the one that the resume file keeps; without one nothing was done.
use Rattle.std.proofs.Common.{inr, rules}
use Rattle.std.proofs.KnownBytes.{Keeps-refl}
use Rattle.jc_sender.specs.Taken.{KeepsSomePoint}
use Rattle.jc_sender.proofs.Uploads.{on_failure}
use Rattle.jc_sender.proofs.Written.{kept_printed, kept_unprinted}
use Rattle.jc_sender.proofs.acknowledge.ack.Goals as goal

pub returns-in_err-moved-clause-untouched : goal.returns-in_err-moved-clause-untouched
returns-in_err-moved-clause-untouched g c =
    on_failure c.from_residual-in_err-moved.result _ (λ failure other. Keeps-refl (g.O.Write.contents c.args.output.now))

pub returns-clause-printed : goal.returns-clause-printed
returns-clause-printed g c =
    let keeps : KeepsSomePoint g.R.System.told c.args.source (g.I.Read.remaining c.args.input.now) (g.R.System.deeds c.args.rt.now) (g.R.System.deeds c.write_resume.new.rt) =
    record { moved = c.in_ok-moved.moved; moves = search rules; written = search rules } in
    kept_printed g.R.System.told c.args.source (g.I.Read.remaining c.args.input.now) (g.R.System.deeds c.args.rt.now) (g.R.System.deeds c.write_resume.new.rt)
    keeps c.print_point.result (g.O.Write.contents c.args.output.now) (g.O.Write.contents c.print_point.new.output) c.print_point.ensures.printed

pub returns-clause-stays : goal.returns-clause-stays
returns-clause-stays g c =
    let keeps : KeepsSomePoint g.R.System.told c.args.source (g.I.Read.remaining c.args.input.now) (g.R.System.deeds c.args.rt.now) (g.R.System.deeds c.write_resume.new.rt) =
    record { moved = c.in_ok-moved.moved; moves = search rules; written = search rules } in
    kept_unprinted g.R.System.told c.args.source (g.I.Read.remaining c.args.input.now) (g.R.System.deeds c.args.rt.now) (g.R.System.deeds c.write_resume.new.rt)
    keeps c.print_point.result c.print_point.ensures.failed

pub returns-clause-touched : goal.returns-clause-touched
returns-clause-touched g c = inr (c.in_ok-moved.moved, search rules)
