use Rattle.std.proofs.Common.{◌≡◌, take}
use Rattle.jc_world.specs.Schedule.{TakesEach}
use Rattle.jc_world.specs.Stepped.{AddsAnswers}
use Rattle.jc_world.specs.World.{answers_of, keeper_of, limits_of, state_of}
use Rattle.jc_world.proofs.world.World.take_each.Given as goal

abbrev pub invariant-loop-taken : goal.invariant-loop-taken
invariant-loop-taken g l =
    let journal = g.K.Keeper.journal in
    record {
      each : g.K.Keeper.sound (keeper_of l.self) → g.K.Keeper.made (keeper_of l.fn.self)
          → TakesEach (limits_of l.fn.self) (state_of journal l.fn.self) (take l.taken l.events) (state_of journal l.self);
      answers : AddsAnswers (answers_of l.fn.self) (answers_of l.self) (g.K.Keeper.failures (keeper_of l.fn.self)) (g.K.Keeper.failures (keeper_of l.self));
      before : g.K.Keeper.sound (keeper_of l.self) → g.K.Keeper.sound (keeper_of l.fn.self);
      made : g.K.Keeper.made (keeper_of l.fn.self) → g.K.Keeper.made (keeper_of l.self);
      settled : g.K.Keeper.settled (keeper_of l.fn.self) → g.K.Keeper.settled (keeper_of l.self);
      limits : limits_of l.self ≡ limits_of l.fn.self;
    }
