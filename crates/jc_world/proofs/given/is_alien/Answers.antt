use Rattle.std.proofs.Common.{map, refl}
use Rattle.jc_world.specs.State.{source_of}
use Rattle.jc_world.proofs.Giving.{alien_found, alien_without}
use Rattle.jc_world.proofs.given.is_alien.Goals as goal

pub returns-in-Some : goal.returns-in-Some
returns-in-Some c =
    alien_found c.one_head.ensures.one c.args.machines.now c.args.bytes.now c.in-Some.head c.in-Some.ensures c.place_of.result c.is_none.result
    c.place_of.ensures c.is_none.ensures

pub returns-in-None : goal.returns-in-None
returns-in-None c = (λ _. alien_without (map source_of c.args.machines.now) c.args.bytes.now c.in-None.ensures, λ _. refl)
