-- What is acknowledged is stored, or isn't acknowledged.
use Rattle.std.proofs.Common.{◌≡◌, map, refl, rules}
use Rattle.jc_collect.specs.Each.{NoneAcknowledged}
use Rattle.jc_collect.specs.Settled.{withdrawn}
use Rattle.jc_collect.proofs.GatheredUploads.{all_changed, settled_none, settled_not, settled_ok}
use Rattle.jc_collect.proofs.Settling.{never_reads}
use Rattle.jc_collect.proofs.gathered.Gathered.settle.Goals as goal

pub returns-then-not-is_any_acknowledged : goal.returns-then-not-is_any_acknowledged
returns-then-not-is_any_acknowledged g c =
    let none : NoneAcknowledged c.args.self.now.answers.items = search rules in
    settled_none g.K.Keeper c.args.keeper.now c.args.self.now.answers.items none

pub returns-in_default : goal.returns-in_default
returns-in_default g c =
    let set = c.in_default.ensures in
    let some : ¬ NoneAcknowledged c.args.self.now.answers.items = search rules in
    settled_ok g.K.Keeper c.args.keeper.now c.settle.new.self c.args.self.now.answers.items
    set.settled set.same set.before set.clean set.crash set.recovers set.made set.store set.brought set.unclaimed (λ none. absurd (some none))
    (λ found late made settled may. g.met.K.Keeper.durable c.settle.new.self found late made settled may) set.answered refl

pub returns-in-Err : goal.returns-in-Err
returns-in-Err g c =
    let set = c.in-Err.ensures in
    let some : ¬ NoneAcknowledged c.args.self.now.answers.items = search rules in
    let changed : c.withdraw_each.new.answers ≡ map (withdrawn c.in-Err.stop) c.args.self.now.answers.items = search rules in
    settled_not g.K.Keeper c.args.keeper.now c.settle.new.self c.args.self.now.answers.items
    set.settled set.same set.before set.clean set.crash set.recovers set.made set.store set.brought set.unclaimed (λ none. absurd (some none))
    c.in-Err.stop _ (all_changed (withdrawn c.in-Err.stop) c.args.self.now.answers.items c.withdraw_each.new.answers _ changed (search rules)) refl (never_reads set.never_read) set.shut
