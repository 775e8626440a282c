-- What contracts see of a world. (own)
use Rattle.std.specs.Prelude.{List, map}
use Rattle.jc_base.specs.Journal.{Journal}
use Rattle.jc_base.specs.declared.limits.Limits.{Limits}
use Rattle.jc_upload.specs.declared.answer.Answer.{Answer}
use Rattle.jc_world.specs.State.{State}
use Rattle.jc_world.specs.declared.parts.Machines.{Machines}
use Rattle.jc_world.specs.declared.world.World.{World}

-- its state, by the journal of its keeper
abbrev pub state_of : {K : Type 0} → (K → Journal) → World K → State
state_of journal w = record {
  machines = w.machines.items;
  uploads = map (λ u. u.items) w.uploads.items;
  answers = w.answers.items;
  journal = journal w.keeper;
}

abbrev pub answers_of : {K : Type 0} → World K → List Answer
answers_of w = w.answers.items

abbrev pub keeper_of : {K : Type 0} → World K → K
keeper_of w = w.keeper

abbrev pub limits_of : {K : Type 0} → World K → Limits
limits_of w = w.limits

-- ---- without a keeper

-- the state of a world of these machines, and a collector with this journal
abbrev pub state_with : Machines → Journal → State
state_with m journal = record {
  machines = m.machines.items;
  uploads = map (λ u. u.items) m.uploads.items;
  answers = m.answers.items;
  journal = journal;
}

-- the limits of the collector
abbrev pub limits_with : Machines → Limits
limits_with m = m.limits
