-- Keys in turn, until none is left.
use Rattle.std.proofs.Common.{◌≡◌, [], rules}
use Rattle.jc_sequences.proofs.Listed.{none_listed, one_listed}
use Rattle.jc_sequences.proofs.listing.names_of.Goals as goal

pub loop-key-init : goal.loop-key-init
loop-key-init c =
    let none : c.new-names.result.items ≡ [] = search rules in
    none_listed c.new-names.result.items c.args.keys.keys none

pub loop-key-preserved : goal.loop-key-preserved
loop-key-preserved c =
    rw c.in_ok-push.ensures.items
    (one_listed c.loop-key.names.items c.in-Some.key c.loop-key.keys.keys c.pop_first.new.self.keys
    c.in-Some.ensures.removal c.in-Some.ensures.all_above c.loop-key.invariant)

pub returns : goal.returns
returns c = c.loop-key.invariant.once
