use Rattle.std.proofs.Common.{◌≡◌, length, refl, sym, ◌∙◌, arith, rules}
use Rattle.std.proofs.lemmas.Option.{slice_get_read}
use Rattle.jc_world.proofs.Giving.{none_stands}
use Rattle.jc_world.proofs.given.place_of.Goals as goal

pub returns-then-eq : goal.returns-then-eq
returns-then-eq c =
    let same : c.source.result ≡ c.args.source = search rules in
    record {
      machine = c.index-machines-place.result;
      at = slice_get_read c.args.machines.now (length c.args.machines.now) c.loop-place.place c.index-machines-place.result refl
          c.loop-place-test.true c.index-machines-place.is;
      own = sym c.source.ensures ∙ same;
    }

pub returns : goal.returns
returns c = none_stands c.args.machines.now c.args.source (λ k d lt. c.loop-place.invariant k d (omega (arith, lt, c.loop-place-test.false)))
