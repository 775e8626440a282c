use Rattle.jc_runs.proofs.Acknowledging.{deletes_safely, tells_all}
use Rattle.jc_runs.proofs.Course.{keeps_on, stands_at_first, turns_whole}
use Rattle.jc_runs.proofs.Forgetting.{fronts_kept, may_keep_first, windows_go}
use Rattle.jc_runs.proofs.Limited.{within}
use Rattle.jc_runs.proofs.Renaming.{owners_changed, renamed}
use Rattle.jc_runs.proofs.Stepping.{Laws}
use Rattle.jc_runs.proofs.WorkedFiles.{Files, first}
use Rattle.jc_runs.proofs.WorkedFront.{keeps_no_note}
use Rattle.jc_runs.proofs.WorkedOwners.{both_renamed}
use Rattle.jc_runs.proofs.WorkedStarts.{starts}
use Rattle.jc_runs.proofs.WorkedSteps.{it_is_worked}
use Rattle.jc_runs.proofs.law.runs_keep.Goals as goal

pub returns-clause-begins : goal.returns-clause-begins
returns-clause-begins c = stands_at_first c.union_laws.ensures.same

pub returns-clause-first : goal.returns-clause-first
returns-clause-first c = first (record { read = c.one_reading-2.ensures.read; known = c.owners_are_no_harm.ensures.known })

pub returns-clause-unopened : goal.returns-clause-unopened
returns-clause-unopened c =
    λ made kind b finished aside still_finished still_aside windows image before came told found told' found' deeds deeds' shape shape' began more same.
    record { holds = began.holds; noted = began.noted; owner = began.owner; past = same; came = more }

pub returns-clause-keeps : goal.returns-clause-keeps
returns-clause-keeps c = keeps_on (record {
  collecting = record {
    limits = c.default-limits.result;
    defaults = c.default-limits.ensures;
    each = c.each_stored.ensures.stored;
    stored = c.acknowledged_stored.ensures.stored;
    once = c.one_saying.ensures;
  };
  same = c.union_laws.ensures.same;
})

pub returns-clause-turns : goal.returns-clause-turns
returns-clause-turns c = turns_whole

pub returns-clause-tells : goal.returns-clause-tells
returns-clause-tells c = tells_all

pub returns-clause-deletes : goal.returns-clause-deletes
returns-clause-deletes c = deletes_safely

pub returns-clause-worked : goal.returns-clause-worked
returns-clause-worked c =
    let laws : Laws = record {
      collecting = record {
        limits = c.default-limits.result;
        defaults = c.default-limits.ensures;
        each = c.each_stored.ensures.stored;
        stored = c.acknowledged_stored.ensures.stored;
        once = c.one_saying.ensures;
      };
      same = c.union_laws.ensures.same;
    } in
    it_is_worked laws (record { some = c.one_reading.ensures.some; back = c.canonical_texts_read_back.ensures.whole })
    (record { head = c.one_head.ensures.one; answer = c.one_answer.ensures })

pub returns-clause-starts : goal.returns-clause-starts
returns-clause-starts c =
    let laws : Laws = record {
      collecting = record {
        limits = c.default-limits.result;
        defaults = c.default-limits.ensures;
        each = c.each_stored.ensures.stored;
        stored = c.acknowledged_stored.ensures.stored;
        once = c.one_saying.ensures;
      };
      same = c.union_laws.ensures.same;
    } in
    starts (record { read = c.one_reading-2.ensures.read; known = c.owners_are_no_harm.ensures.known }) laws
    (record { some = c.one_reading.ensures.some; back = c.canonical_texts_read_back.ensures.whole })

pub returns-clause-both_renamed : goal.returns-clause-both_renamed
returns-clause-both_renamed c =
    let files : Files = record { read = c.one_reading-2.ensures.read; known = c.owners_are_no_harm.ensures.known } in
    let laws : Laws = record {
      collecting = record {
        limits = c.default-limits.result;
        defaults = c.default-limits.ensures;
        each = c.each_stored.ensures.stored;
        stored = c.acknowledged_stored.ensures.stored;
        once = c.one_saying.ensures;
      };
      same = c.union_laws.ensures.same;
    } in
    let four = (starts files laws (record { some = c.one_reading.ensures.some; back = c.canonical_texts_read_back.ensures.whole })).0 in
    (four.0, both_renamed files four.0 four.1)

pub returns-clause-keeps_no_note : goal.returns-clause-keeps_no_note
returns-clause-keeps_no_note c =
    let files : Files = record { read = c.one_reading-2.ensures.read; known = c.owners_are_no_harm.ensures.known } in
    let laws : Laws = record {
      collecting = record {
        limits = c.default-limits.result;
        defaults = c.default-limits.ensures;
        each = c.each_stored.ensures.stored;
        stored = c.acknowledged_stored.ensures.stored;
        once = c.one_saying.ensures;
      };
      same = c.union_laws.ensures.same;
    } in
    let four = (starts files laws (record { some = c.one_reading.ensures.some; back = c.canonical_texts_read_back.ensures.whole })).0 in
    (four.0, keeps_no_note files four.0 four.1)

pub returns-clause-owners : goal.returns-clause-owners
returns-clause-owners c = owners_changed (record { read = c.one_reading-2.ensures.read; known = c.owners_are_no_harm.ensures.known })

pub returns-clause-renames : goal.returns-clause-renames
returns-clause-renames c = renamed

pub returns-clause-windows_go : goal.returns-clause-windows_go
returns-clause-windows_go c = windows_go (record { read = c.one_reading-2.ensures.read; known = c.owners_are_no_harm.ensures.known })

pub returns-clause-fronts : goal.returns-clause-fronts
returns-clause-fronts c = fronts_kept (record { read = c.one_reading-2.ensures.read; known = c.owners_are_no_harm.ensures.known })

pub returns-clause-may_keep : goal.returns-clause-may_keep
returns-clause-may_keep c = may_keep_first

pub returns-clause-limited : goal.returns-clause-limited
returns-clause-limited c = within
