-- Where no line is left, all were read.
use Rattle.std.proofs.Common.{◌≡◌, length, rules}
use Rattle.jc_sender.proofs.AnswersRead.{all_lines}
use Rattle.jc_sender.proofs.answers.read_answers.Goals as goal

pub returns-clause-all : goal.returns-clause-all
returns-clause-all c =
    let none : length c.loop-rest.rest.now ≡ 0 = search rules in
    all_lines c.args.text.now c.loop-rest.rest.now c.loop-rest.answers.items none c.loop-rest.invariant.lines
    c.loop-rest.invariant.each

pub returns-in-None-clause-failed : goal.returns-in-None-clause-failed
returns-in-None-clause-failed c = search rules
