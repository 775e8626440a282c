-- A window keeps its first notes.
use Rattle.std.proofs.Common.{◌≡◌, ◌≤◌, ◌<◌, length, rules, take}
use Rattle.jc_notes.proofs.Working.{front_kept, front_stays}
use Rattle.jc_notes.proofs.forgetting.keep_front.Goals as goal

pub returns-then-len-front-clause-kept : goal.returns-then-len-front-clause-kept
returns-then-len-front-clause-kept g c =
    let notes = c.in_ok-notes.notes.items in
    let few : length notes ≤ c.args.front.count = search rules in
    front_stays g.R.System.found c.args.folder.now c.args.front notes c.in_ok-notes.ensures.notes (g.R.System.deeds c.args.rt.now) few

pub returns-clause-kept : goal.returns-clause-kept
returns-clause-kept g c =
    let notes = c.in_ok-notes.notes.items in
    let more : c.args.front.count < length notes = search rules in
    let put : c.truncate.new.self.items ≡ take c.args.front.count notes = search rules in
    front_kept g.R.System.found c.args.folder.now c.args.front notes c.in_ok-notes.ensures.notes c.replace_notes.result (g.R.System.deeds c.args.rt.now)
    (g.R.System.deeds c.replace_notes.new.rt) more c.truncate.new.self.items put (search rules)
