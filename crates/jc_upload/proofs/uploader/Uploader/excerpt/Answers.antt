-- No entry was given at first, and one more with each.
use Rattle.std.proofs.Common.{[], ◌∷◌, ◌++◌, arith, refl, rules}
use Rattle.jc_stream.specs.contracts.stream.StreamEntrySource.TheImpl.{remaining-value}
use Rattle.jc_stream.specs.Device.{limits_of}
use Rattle.jc_upload.proofs.Excerpts.{follows_more, follows_none, grows, of_stream_end, of_stream_more, of_stream_none}
use Rattle.jc_upload.proofs.uploader.Uploader.excerpt.Goals as goal

pub entries-init : goal.entries-init
entries-init g c =
    let remaining = (remaining-value g.row.R g.R.ByteStream g.R.ByteStream-dict).it in
    record {
      given = ([], follows_none (remaining c.args.source.now), of_stream_none (limits_of c.args.source.now), c.new-excerpt.ensures.none c.position-position.result c.args.limit);
      limits = refl;
      bound = omega (arith, c.new-excerpt.ensures.count);
      failures = search rules;
      last = search rules;
      borrowed = refl;
    }

pub entries-preserved : goal.entries-preserved
entries-preserved g c =
    let remaining = (remaining-value g.row.R g.R.ByteStream g.R.ByteStream-dict).it in
    let entry = c.in-Entry.entry in
    let given = c.entries.invariant.given in
    record {
      given = (
        given.0 ++ entry ∷ [],
        follows_more (remaining c.args.source.now) (remaining c.entries.source) (remaining c.next.new.self) given.0 entry
            c.in_ok-step.step given.1 c.in-Entry.is c.in_ok-step.ensures.gives,
        of_stream_more (limits_of c.args.source.now) (limits_of c.entries.source) given.0 entry c.in_ok-step.step given.2
            c.entries.invariant.limits c.in-Entry.is c.in_ok-take-in-Entry.ensures.lawful c.in_ok-step.ensures.stream,
        grows c.position-position.result c.args.limit given.0 entry c.entries.excerpt c.take.new.self given.3
            c.in_ok-take-in-Entry.ensures.count c.in_ok-take-in-Entry.ensures.key c.in_ok-take-in-Entry.ensures.other
            c.in_ok-take-in-Entry.ensures.carried c.in_ok-take-in-Entry.ensures.early c.in_ok-take-in-Entry.ensures.full,
      );
      limits = search rules;
      bound = search rules;
      failures = search rules;
      last = search rules;
      borrowed = search rules;
    }

pub returns-in-Bad-clause-stream : goal.returns-in-Bad-clause-stream
returns-in-Bad-clause-stream g c =
    of_stream_end (limits_of c.args.source.now) (limits_of c.entries.source) c.in-Bad.fault c.in_ok-step.step
    c.entries.invariant.limits c.in-Bad.is c.in_ok-step.ensures.stream
