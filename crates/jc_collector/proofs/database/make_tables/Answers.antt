-- What `create` says of the keeper, or of why it refused.
use Rattle.std.proofs.Common.{◌≡◌, inl, inr}
use Rattle.jc_base.specs.declared.fault.Code.TheVariants.{NotAJournal}
use Rattle.jc_collector.proofs.Refusals.{why_refused}
use Rattle.jc_collector.proofs.database.make_tables.Goals as goal

pub returns-in-Ok-clause-sound : goal.returns-in-Ok-clause-sound
returns-in-Ok-clause-sound g c = c.in-Ok.ensures.sound

pub returns-in-Ok-clause-before : goal.returns-in-Ok-clause-before
returns-in-Ok-clause-before g c = c.in-Ok.ensures.before

pub returns-in-Ok-clause-made : goal.returns-in-Ok-clause-made
returns-in-Ok-clause-made g c = c.in-Ok.ensures.made

pub returns-in-Ok-clause-empty : goal.returns-in-Ok-clause-empty
returns-in-Ok-clause-empty g c = c.in-Ok.ensures.empty

pub returns-in-Err-clause-failed : goal.returns-in-Err-clause-failed
returns-in-Err-clause-failed g c =
    why_refused (λ code. code ≡ NotAJournal) (λ code is. inl is) c.in-Err.fault.code c.in-Err.fault.row (inr (c.in-Err.ensures.row, inr c.in-Err.ensures.code))
    c.why_refused.result c.why_refused.ensures

pub returns-in-Err-clause-crash : goal.returns-in-Err-clause-crash
returns-in-Err-clause-crash g c lawful before from blank =
    c.close_unmade.ensures.left lawful before c.args.conn from blank c.in-Err.ensures.clean c.in-Err.ensures.crash_refused
