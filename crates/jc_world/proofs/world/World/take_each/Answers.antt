use Rattle.std.proofs.Common.{◌∙◌, subst}
use Rattle.jc_base.specs.declared.failure.OutOfMemory.{OutOfMemory}
use Rattle.jc_base.specs.declared.limits.Limits.{Limits}
use Rattle.jc_world.specs.Schedule.{Takes}
use Rattle.jc_world.specs.World.{answers_of, keeper_of, limits_of, state_of}
use Rattle.jc_world.proofs.Adding.{adds_then}
use Rattle.jc_world.proofs.Running.{takes_by, takes_more}
use Rattle.jc_world.proofs.world.World.take_each.Goals as goal

pub loop-taken-preserved : goal.loop-taken-preserved
loop-taken-preserved g c = record {
  each = λ sound made.
      let before = state_of g.K.Keeper.journal c.args.self.now in
      let now = state_of g.K.Keeper.journal c.loop-taken.self in
      let after = state_of g.K.Keeper.journal c.step.new.self in
      let took : Takes (limits_of c.loop-taken.self) now c.index-events-taken.result after =
      takes_by OutOfMemory (limits_of c.loop-taken.self) now after c.index-events-taken.result c.in_default.field-0
      (c.in_default.ensures.step sound (c.loop-taken.invariant.made made)) in
      takes_more (limits_of c.args.self.now) before now after c.args.events.now c.loop-taken.taken c.index-events-taken.result c.loop-taken-test.true
      c.index-events-taken.is (c.loop-taken.invariant.each (c.in_default.ensures.before sound) made)
      (subst (λ (limits : Limits). Takes limits now c.index-events-taken.result after) c.loop-taken.invariant.limits took);
  answers = adds_then (answers_of c.args.self.now) (answers_of c.loop-taken.self) (answers_of c.step.new.self)
      (g.K.Keeper.failures (keeper_of c.args.self.now)) (g.K.Keeper.failures (keeper_of c.loop-taken.self)) (g.K.Keeper.failures (keeper_of c.step.new.self))
      c.loop-taken.invariant.answers c.in_default.ensures.answers;
  before = λ sound. c.loop-taken.invariant.before (c.in_default.ensures.before sound);
  made = λ made. c.in_default.ensures.made (c.loop-taken.invariant.made made);
  settled = λ settled. c.in_default.ensures.settled (c.loop-taken.invariant.settled settled);
  limits = c.in_default.ensures.limits ∙ c.loop-taken.invariant.limits;
}
